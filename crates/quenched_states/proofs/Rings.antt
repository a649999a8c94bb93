-- Sums over pairs of sites some steps apart are multiples of 4: each site is in two of the pairs of a direction.
use Rattle.std.proofs.Common.{inl, inr, ◌≡◌, ◌⊎◌, ℕ, zero, suc, ◌+◌, ◌*◌, ◌/◌, ◌%◌, ◌<◌, ◌≤◌, Bool, true, false, not, cond, List, ℤ, pos, neg_ℤ, nat_abs, ◌+ℤ◌, ◌-ℤ◌, ◌*ℤ◌, refl, ap, sym, ◌∙◌, arith}
use Rattle.std.proofs.Math.Nat.{mul_assoc, mul_comm}
use Rattle.std.proofs.lemmas.Int.{ints}
use borrow.Author.Differences.{up, down}
use Rattle.spin_model.specs.Words.{one_if}
use Rattle.spin_model.specs.Steps.{steps}
use Rattle.spin_model.specs.SignedSums.{sum_of}
use Rattle.spin_model.specs.Lattice.{IsLawfulSize, volume, forward}
use Rattle.scalar_rule.specs.Neighbours.{spin, agree}
use Rattle.scalar_rule.specs.Positions.{sum_below}
use Rattle.scalar_rule.proofs.FiniteSums.{sum-add, sum-permuted, sum-even}
use Rattle.scalar_rule.proofs.Shifts.{shift-x, shift-y, shift-z}
use Rattle.measured_sums.specs.OverlapField.{site_overlap, steps_ahead, distance_correlation}
use Rattle.measured_sums.proofs.Planes.{absolute}

-- ---- a sum over all sites some steps on is that over all sites

one-step : (l d : ℕ) (h : ℕ → ℕ) → 0 < l → d < 3 → sum_below (λ i. h (forward l i d)) (volume l) ≡ sum_below h (volume l)
one-step l zero h some below = sum-permuted h _ _ (volume l) (shift-x l some)
one-step l (suc zero) h some below = sum-permuted h _ _ (volume l) (shift-y l some)
one-step l (suc (suc zero)) h some below = sum-permuted h _ _ (volume l) (shift-z l some)
one-step l (suc (suc (suc d))) h some below = absurd (omega arith)

many-steps : (l d r : ℕ) (h : ℕ → ℕ) → 0 < l → d < 3 → sum_below (λ i. h (steps_ahead l i d r)) (volume l) ≡ sum_below h (volume l)
unfolding steps
many-steps l d zero h some below = refl
many-steps l d (suc r) h some below = many-steps l d r (λ k. h (forward l k d)) some below ∙ one-step l d h some below

-- ---- one direction

abbrev value_of : Bool → ℤ
value_of x = cond x (pos 1) (neg_ℤ (pos 1))

abbrev differ : Bool → Bool → ℕ
differ x y = one_if (not (agree x y))

product-value : (x y : Bool) → value_of x *ℤ value_of y ≡ pos 1 -ℤ pos (2 * differ x y)
product-value true true = refl
product-value true false = refl
product-value false true = refl
product-value false false = refl

differ-even : (x y : Bool) → (differ x y + (one_if x + one_if y)) % 2 ≡ 0
differ-even true true = refl
differ-even true false = refl
differ-even false true = refl
differ-even false false = refl

row-value : (q : ℕ → Bool) (to : ℕ → ℕ) (n : ℕ)
    → sum_of (λ i. value_of (q i) *ℤ value_of (q (to i))) n ≡ pos n -ℤ pos (2 * sum_below (λ i. differ (q i) (q (to i))) n)
unfolding sum_of sum_below
row-value q to zero = refl
row-value q to (suc n) =
    let before = row-value q to n in
    let last = product-value (q n) (q (to n)) in
    omega (arith, ints)

row-even : (q : ℕ → Bool) (to : ℕ → ℕ) (n : ℕ) → sum_below (λ i. one_if (q (to i))) n ≡ sum_below (λ i. one_if (q i)) n
    → sum_below (λ i. differ (q i) (q (to i))) n % 2 ≡ 0
row-even q to n same =
    let even = sum-even (λ i. differ (q i) (q (to i)) + (one_if (q i) + one_if (q (to i)))) n (λ i _. differ-even (q i) (q (to i))) in
    let first = sum-add (λ i. differ (q i) (q (to i))) (λ i. one_if (q i) + one_if (q (to i))) n in
    let second = sum-add (λ i. one_if (q i)) (λ i. one_if (q (to i))) n in
    omega arith

-- ---- all three

volume-fours : (l : ℕ) → IsLawfulSize l → volume l % 4 ≡ 0
volume-fours l lawful =
    let even = lawful.2 in
    let h = l / 2 in
    let half : l ≡ 2 * h = omega arith in
    let square = ap (λ n. n * l) half ∙ mul_assoc 2 h l in
    let rest = ap (λ n. h * l * n) half ∙ mul_comm (h * l) (2 * h) ∙ mul_assoc 2 h (h * l) in
    let cube = ap (λ n. n * l) square ∙ mul_assoc 2 (h * l) l in
    omega arith

fours-apart : (a b : ℕ) → a % 4 ≡ 0 → b % 4 ≡ 0 → nat_abs (pos a -ℤ pos b) % 4 ≡ 0
fours-apart a b first second =
    let z = pos a -ℤ pos b in
    let parts = absolute z in
    let length = parts.0 in
    let whole : up z + b ≡ down z + a = omega (arith, ints) in
    elim (parts.1) [
      | inl none ↦ omega arith
      | inr none ↦ omega arith
    ]

three-terms : (f : ℕ → ℤ) → sum_of f 3 ≡ f 0 +ℤ f 1 +ℤ f 2
unfolding sum_of
three-terms f = omega (arith, ints)

pub distances-fours : (l : ℕ) (first second : List Bool) (r : ℕ) → IsLawfulSize l → nat_abs (distance_correlation l (site_overlap first second) r) % 4 ≡ 0
distances-fours l first second r lawful =
    let some : 0 < l = omega (arith, lawful.0) in
    let v = volume l in
    let q = λ (i : ℕ). agree (spin first i) (spin second i) in
    let apart = λ (d : ℕ). sum_below (λ i. differ (q i) (q (steps_ahead l i d r))) v in
    let row = λ (d : ℕ). sum_of (λ i. site_overlap first second i *ℤ site_overlap first second (steps_ahead l i d r)) v in
    let value = λ (d : ℕ). row-value q (λ i. steps_ahead l i d r) v in
    let even = λ (d : ℕ) (below : d < 3). row-even q (λ i. steps_ahead l i d r) v (many-steps l d r (λ i. one_if (q i)) some below) in
    let x = value 0 in
    let y = value 1 in
    let z = value 2 in
    let all : distance_correlation l (site_overlap first second) r ≡ pos (3 * v) -ℤ pos (2 * (apart 0 + apart 1 + apart 2)) = three-terms row ∙ omega (arith, ints) in
    let fours = volume-fours l lawful in
    let ex = even 0 (omega arith) in
    let ey = even 1 (omega arith) in
    let ez = even 2 (omega arith) in
    ap (λ n. nat_abs n % 4) all ∙ fours-apart (3 * v) (2 * (apart 0 + apart 1 + apart 2)) (omega arith) (omega arith)
