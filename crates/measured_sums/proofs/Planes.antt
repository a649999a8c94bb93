-- Fields, the planes that their sites lie on, and the sums over these.
use Rattle.std.proofs.Common.{inl, inr, ◌≡◌, ◌⊎◌, ℕ, zero, suc, ◌+◌, ◌-◌, ◌*◌, ◌/◌, ◌%◌, ◌<◌, ◌≤◌, Bool, true, false, cond, ◌==◌, List, [], ◌∷◌, length, ℤ, pos, negsuc, neg_ℤ, nat_abs, ◌+ℤ◌, ◌-ℤ◌, ◌*ℤ◌, refl, ap, sym, ◌∙◌, arith}
use Rattle.std.proofs.Math.IntN.{zero-*ℤ}
use Rattle.std.proofs.Math.Nat.{mul_assoc, mul_comm}
use borrow.Author.Differences.{up, down}
use Rattle.std.proofs.lemmas.Int.{ints}
use Rattle.std.proofs.lemmas.Nat.{mod_below}
use Rattle.spin_model.specs.Words.{one_if}
use Rattle.spin_model.specs.Steps.{count_below}
use Rattle.spin_model.specs.SignedSums.{sum_of}
use Rattle.spin_model.specs.Lattice.{IsLawfulSize, volume, x_of, y_of, z_of}
use Rattle.spin_model.proofs.Counts.{count-most}
use Rattle.spin_model.proofs.Sites.{x_of-below, y_of-below, z_of-below}
use Rattle.scalar_rule.specs.Neighbours.{spin, agree}
use Rattle.scalar_rule.specs.Sums.{overlap}
use Rattle.measured_sums.specs.OverlapField.{Field, site_overlap, total_overlap}
use Rattle.measured_sums.specs.PlaneFamilies.{Family, AlongX, AlongY, AlongZ, SumXY, DifferenceXY, SumXZ, DifferenceXZ, SumYZ, DifferenceYZ, plane_of, plane_sum}
use Rattle.measured_sums.specs.PlaneCorrelations.{plane_correlation, over_families}
use Rattle.measured_sums.specs.Laws.{HaveSquares}
use Rattle.measured_sums.specs.MeasuredSums.{square}
use Rattle.measured_sums.proofs.SignedTerms.{terms-same, terms-add, terms-none, terms-swap, term-hit, sum-times, distances-add, distances-turn, halves-add}

-- ---- the sum over all sites

site-value : (b : Bool) → cond b (pos 1) (neg_ℤ (pos 1)) ≡ pos (2 * one_if b) -ℤ pos 1
site-value true = refl
site-value false = refl

sites-counted : (first second : List Bool) (n : ℕ) → sum_of (site_overlap first second) n ≡ pos (2 * count_below (λ i. agree (spin first i) (spin second i)) n) -ℤ pos n
unfolding sum_of count_below
sites-counted first second zero = refl
sites-counted first second (suc n) =
    let before = sites-counted first second n in
    let last = site-value (agree (spin first n) (spin second n)) in
    omega (arith, ints)

pub total-overlap : (l : ℕ) (first second : List Bool) → total_overlap l (site_overlap first second) ≡ overlap l first second
total-overlap l first second = sites-counted first second (volume l)

-- ---- planes

plane-below : (l : ℕ) (family : Family) (i : ℕ) → 0 < l → i < volume l → plane_of l family i < l
plane-below l AlongX i some within = x_of-below l i some
plane-below l AlongY i some within = y_of-below l i some
plane-below l AlongZ i some within = z_of-below l i some within
plane-below l SumXY i some within = mod_below (x_of l i + y_of l i) l some
plane-below l DifferenceXY i some within = mod_below (x_of l i + l - y_of l i) l some
plane-below l SumXZ i some within = mod_below (x_of l i + z_of l i) l some
plane-below l DifferenceXZ i some within = mod_below (x_of l i + l - z_of l i) l some
plane-below l SumYZ i some within = mod_below (y_of l i + z_of l i) l some
plane-below l DifferenceYZ i some within = mod_below (y_of l i + l - z_of l i) l some

pub planes-add : (l : ℕ) (q : Field) (family : Family) → IsLawfulSize l → sum_of (plane_sum l q family) l ≡ total_overlap l q
planes-add l q family lawful =
    let some : 0 < l = omega (arith, lawful.0) in
    terms-swap (λ m i. cond (plane_of l family i == m) (q i) (pos 0)) l (volume l)
    ∙ terms-same (λ i. sum_of (λ m. cond (plane_of l family i == m) (q i) (pos 0)) l) q (volume l)
    (λ i within. term-hit (q i) (plane_of l family i) l (plane-below l family i some within))

pub correlations-add : (l : ℕ) (q : Field) (family : Family) → IsLawfulSize l → sum_of (plane_correlation l q family) l ≡ square (total_overlap l q)
correlations-add l q family lawful = distances-add (plane_sum l q family) l ∙ ap square (planes-add l q family lawful)

-- ---- an overlap is even

pub absolute : (z : ℤ) → (nat_abs z ≡ up z + down z) × ((up z ≡ 0) ⊎ (down z ≡ 0))
absolute (pos n) = (omega arith, inr refl)
absolute (negsuc n) = (omega arith, inl refl)

even-difference : (a v : ℕ) → a ≤ v → v % 2 ≡ 0 → (nat_abs (pos (2 * a) -ℤ pos v) % 2 ≡ 0) × (nat_abs (pos (2 * a) -ℤ pos v) ≤ v)
even-difference a v most even =
    let z = pos (2 * a) -ℤ pos v in
    let parts = absolute z in
    let whole : up z + v ≡ down z + 2 * a = omega (arith, ints) in
    let length = parts.0 in
    elim (parts.1) [
      | inl none ↦ (omega arith, omega arith)
      | inr none ↦ (omega arith, omega arith)
    ]

volume-even : (l : ℕ) → IsLawfulSize l → volume l % 2 ≡ 0
volume-even l lawful =
    let even = lawful.2 in
    let half : l ≡ 2 * (l / 2) = omega arith in
    let cube = ap (λ n. l * l * n) half ∙ mul_comm (l * l) (2 * (l / 2)) ∙ mul_assoc 2 (l / 2) (l * l) in
    omega arith

pub overlaps-even : (l : ℕ) (first second : List Bool) → IsLawfulSize l
    → (nat_abs (total_overlap l (site_overlap first second)) % 2 ≡ 0) × (nat_abs (total_overlap l (site_overlap first second)) ≤ volume l)
overlaps-even l first second lawful =
    let count = count_below (λ i. agree (spin first i) (spin second i)) (volume l) in
    let found = even-difference count (volume l) (count-most (λ i. agree (spin first i) (spin second i)) (volume l)) (volume-even l lawful) in
    rw (total-overlap l first second) found

-- ---- distances up to half the side

one-family : (l : ℕ) (q : Field) (family : Family) → IsLawfulSize l
    → HaveSquares 1 (plane_correlation l q family) l (square (total_overlap l q))
one-family l q family lawful =
    let c = plane_correlation l q family in
    let some = lawful.0 in
    let even = lawful.2 in
    let turn = λ (r : ℕ) (within : r ≤ l). distances-turn (plane_sum l q family) l r within in
    let halves = halves-add c l (l / 2 - 1) (omega arith) turn in
    let middle : suc (l / 2 - 1) ≡ l / 2 = omega arith in
    let whole = sym halves ∙ correlations-add l q family lawful in
    ap (λ h. c 0 +ℤ pos 2 *ℤ sum_of (λ k. c (k + 1)) (l / 2 - 1) +ℤ c h) (sym middle) ∙ whole ∙ omega (arith, ints)

both-have : (n m l : ℕ) (f g : ℕ → ℤ) (squares : ℤ) → HaveSquares n f l squares → HaveSquares m g l squares → HaveSquares (n + m) (λ r. f r +ℤ g r) l squares
both-have n m l f g squares first second =
    let between = terms-add (λ k. f (k + 1)) (λ k. g (k + 1)) (l / 2 - 1) in
    let product = sum-times (pos n) (pos m) squares in
    omega (arith, ints)

pub families-have : (l : ℕ) (q : Field) (families : List Family) → IsLawfulSize l
    → HaveSquares (length families) (λ r. over_families families (λ family. plane_correlation l q family r)) l (square (total_overlap l q))
unfolding over_families
families-have l q [] lawful =
    let none = terms-none (l / 2 - 1) in
    let nothing = zero-*ℤ (square (total_overlap l q)) in
    omega (arith, ints)
families-have l q (family ∷ families) lawful =
    let one = one-family l q family lawful in
    let others = families-have l q families lawful in
    let both = both-have 1 (length families) l (plane_correlation l q family) (λ r. over_families families (λ f. plane_correlation l q f r)) (square (total_overlap l q)) one others in
    both ∙ ap (λ n. pos n *ℤ square (total_overlap l q)) (let more : 1 + length families ≡ suc (length families) = omega arith in more)
