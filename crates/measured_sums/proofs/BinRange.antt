-- Bins rise with the epochs, so those of a run lie between the first epoch's and the last's.
use Rattle.std.proofs.Common.{inl, inr, ◌≡◌, ℕ, zero, suc, ◌+◌, ◌-◌, ◌^◌, ◌<◌, ◌≤◌, Bool, true, false, ◌&&◌, ◌==◌, nat_le, refl, arith}
use Rattle.std.proofs.lemmas.Bool.{cases_lt, eqb-true, leb-true, le-leb}
use Rattle.spin_model.specs.Words.{one_if}
use Rattle.spin_model.specs.Steps.{count_below}
use Rattle.scalar_rule.specs.Records.{is_recorded}
use Rattle.measured_sums.specs.EpochBins.{bin_of, epoch_digits}
use Rattle.measured_sums.specs.MeasuredSums.{is_measured}
use Rattle.measured_sums.specs.Laws.{BinsAreBetween}

one-rises : (a b : Bool) → (a ≡ true → b ≡ true) → one_if a ≤ one_if b
one-rises true true rise = omega arith
one-rises true false rise = let both = rise refl in cc
one-rises false b rise = omega arith

-- where a test holds another does, so it counts no more
counts-rise : (f g : ℕ → Bool) (n : ℕ) → ((k : ℕ) → f k ≡ true → g k ≡ true) → count_below f n ≤ count_below g n
unfolding count_below
counts-rise f g zero rise = omega arith
counts-rise f g (suc n) rise =
    let before = counts-rise f g n rise in
    let last = one-rises (f n) (g n) (rise n) in
    omega (arith, before, last)

bins-rise : (f g : ℕ) → f ≤ g → bin_of f ≤ bin_of g
bins-rise f g h =
    counts-rise (λ k. nat_le (2 ^ k) f) (λ k. nat_le (2 ^ k) g) epoch_digits
    (λ k reached. let below = leb-true (2 ^ k) f reached in le-leb (2 ^ k) g (omega (arith, below, h)))

one-true : (b : Bool) → 0 < one_if b → b ≡ true
one-true true some = refl
one-true false some = absurd (omega arith)

-- what is counted at all is somewhere
some-counted : (test : ℕ → Bool) (n : ℕ) (P : Type 0) → 0 < count_below test n → ((j : ℕ) → j < n → test j ≡ true → P) → P
unfolding count_below
some-counted test zero P some next = absurd (omega arith)
some-counted test (suc n) P some next = elim (cases_lt 0 (count_below test n)) [
  | inl less ↦ some-counted test n P less (λ j below. next j (omega arith))
  | inr none ↦ next n (omega arith) (one-true (test n) (omega (arith, none, some)))
]

and-last : (a b : Bool) → (a && b) ≡ true → b ≡ true
and-last true b both = both
and-last false b both = cc

pub bins-between : BinsAreBetween
bins-between every k c e some =
    some-counted (λ j. is_measured every k (c + j)) (e - c) ((bin_of c ≤ k) × (k ≤ bin_of (e - 1))) some
    (λ j below measured.
    let own : bin_of (c + j) ≡ k = eqb-true (bin_of (c + j)) k (and-last (is_recorded every (c + j)) (bin_of (c + j) == k) measured) in
    let from = bins-rise c (c + j) (omega arith) in
    let to = bins-rise (c + j) (e - 1) (omega arith) in
    (omega (arith, own, from), omega (arith, own, to)))
