-- The sum over pairs of sites some steps apart, from the pairs at both sites of which the replicas agree, or at both of which they differ.
use Rattle.std.proofs.Common.{◌≡◌, ℕ, zero, suc, ◌*◌, Bool, true, false, cond, List, pos, neg_ℤ, ◌-ℤ◌, ◌*ℤ◌, ◌≤◌, nat_abs, refl, ap, ◌∙◌, arith}
use Rattle.std.proofs.lemmas.Int.{ints}
use Rattle.spin_model.specs.Words.{one_if}
use Rattle.spin_model.specs.Steps.{count_below, steps}
use Rattle.spin_model.specs.SignedSums.{sum_of}
use Rattle.spin_model.specs.Lattice.{IsLawfulSize, volume, forward}
use Rattle.spin_model.proofs.Counts.{count-most}
use Rattle.spin_model.proofs.Sites.{volume-bound}
use Rattle.scalar_rule.specs.Neighbours.{agree}
use Rattle.measured_sums.specs.OverlapField.{site_overlap, steps_ahead, distance_correlation}
use Rattle.measured_sums.proofs.SignedTerms.{terms-same}
use Rattle.overlap_lines.specs.Overlaps.{steps_on, overlap_at, term, line_sum}

signs : (a b : Bool) → cond a (pos 1) (neg_ℤ (pos 1)) *ℤ cond b (pos 1) (neg_ℤ (pos 1)) ≡ pos (2 * one_if (agree a b)) -ℤ pos 1
signs true true = refl
signs true false = refl
signs false true = refl
signs false false = refl

counted : (test : ℕ → Bool) (n : ℕ) → sum_of (λ i. pos (2 * one_if (test i)) -ℤ pos 1) n ≡ pos (2 * count_below test n) -ℤ pos n
unfolding sum_of count_below
counted test zero = refl
counted test (suc n) = let before = counted test n in omega (arith, ints)

same-steps : (l i d r : ℕ) → steps_ahead l i d r ≡ steps_on l i d r
unfolding steps steps_on
same-steps l i d zero = refl
same-steps l i d (suc r) = ap (λ k. forward l k d) (same-steps l i d r)

-- in one direction
line : (l : ℕ) (first second : List Bool) (d r : ℕ)
    → sum_of (λ i. site_overlap first second i *ℤ site_overlap first second (steps_ahead l i d r)) (volume l) ≡ line_sum l first second d r
line l first second d r =
    let q = site_overlap first second in
    let test = λ (i : ℕ). term first second i (steps_on l i d r) in
    terms-same (λ i. q i *ℤ q (steps_ahead l i d r)) (λ i. pos (2 * one_if (test i)) -ℤ pos 1) (volume l)
    (λ i below. ap (λ k. q i *ℤ q k) (same-steps l i d r) ∙ signs (overlap_at first second i) (overlap_at first second (steps_on l i d r)))
    ∙ counted test (volume l)

pub distances-counted : (l : ℕ) (first second : List Bool) (r : ℕ)
    → distance_correlation l (site_overlap first second) r ≡ sum_of (λ d. line_sum l first second d r) 3
distances-counted l first second r =
    terms-same (λ d. sum_of (λ i. site_overlap first second i *ℤ site_overlap first second (steps_ahead l i d r)) (volume l))
    (λ d. line_sum l first second d r) 3 (λ d below. line l first second d r)

-- a direction adds at most the number of sites
pub line-small : (l : ℕ) (first second : List Bool) (d r : ℕ) → IsLawfulSize l → nat_abs (line_sum l first second d r) ≤ 262144
line-small l first second d r lawful =
    let most = count-most (λ i. term first second i (steps_on l i d r)) (volume l) in
    let few = volume-bound l lawful in
    omega (arith, ints)
