-- Counts of the numbers below a bound that pass a test.
use Rattle.std.proofs.Common.{◌≡◌, ℕ, zero, suc, ◌<◌, ◌≤◌, Bool, true, false, ap, refl, arith}
use Rattle.spin_model.specs.Words.{one_if}
use Rattle.spin_model.specs.Steps.{count_below}

pub one_if-most : (b : Bool) → one_if b ≤ 1
one_if-most true = omega arith
one_if-most false = omega arith

-- at most all of them pass
pub count-most : (test : ℕ → Bool) (n : ℕ) → count_below test n ≤ n
unfolding count_below
count-most test zero = omega arith
count-most test (suc n) = omega (arith, count-most test n, one_if-most (test n))

-- two tests that agree below the bound
pub count-same : (f g : ℕ → Bool) (n : ℕ) → ((k : ℕ) → k < n → f k ≡ g k) → count_below f n ≡ count_below g n
unfolding count_below
count-same f g zero same = refl
count-same f g (suc n) same =
    let before = count-same f g n (λ k below. same k (omega arith)) in
    let last = ap one_if (same n (omega arith)) in
    omega arith
