-- The link sum of two replicas from the bonds at both ends of which they agree, or at both of which they differ.
use Rattle.std.proofs.Common.{◌≡◌, ℕ, zero, suc, ◌*◌, Bool, true, false, cond, List, ℤ, pos, neg_ℤ, ◌+ℤ◌, ◌-ℤ◌, ◌*ℤ◌, refl, ap, ◌∙◌, arith}
use Rattle.std.proofs.lemmas.Int.{ints}
use Rattle.spin_model.specs.Words.{one_if}
use Rattle.spin_model.specs.Steps.{count_below, steps}
use Rattle.spin_model.specs.SignedSums.{sum_of}
use Rattle.spin_model.specs.Lattice.{volume, bond_count}
use Rattle.scalar_rule.specs.Neighbours.{agree}
use Rattle.measured_sums.specs.OverlapField.{site_overlap, steps_ahead, link_overlap}
use Rattle.measured_sums.proofs.SignedTerms.{terms-same}
use Rattle.overlap_lines.specs.Overlaps.{steps_on, overlap_at, term, agreeing_bonds, agreeing_line}
use Rattle.overlap_lines.proofs.LineCounts.{bonds-are-lines}

signs : (a b : Bool) → cond a (pos 1) (neg_ℤ (pos 1)) *ℤ cond b (pos 1) (neg_ℤ (pos 1)) ≡ pos (2 * one_if (agree a b)) -ℤ pos 1
signs true true = refl
signs true false = refl
signs false true = refl
signs false false = refl

counted : (test : ℕ → Bool) (n : ℕ) → sum_of (λ i. pos (2 * one_if (test i)) -ℤ pos 1) n ≡ pos (2 * count_below test n) -ℤ pos n
unfolding sum_of count_below
counted test zero = refl
counted test (suc n) = let before = counted test n in omega (arith, ints)

one-ahead : (l i d : ℕ) → steps_ahead l i d 1 ≡ steps_on l i d 1
unfolding steps steps_on
one-ahead l i d = refl

line : (l d : ℕ) (first second : List Bool)
    → sum_of (λ i. site_overlap first second i *ℤ site_overlap first second (steps_ahead l i d 1)) (volume l) ≡ pos (2 * agreeing_line l first second d 1) -ℤ pos (volume l)
line l d first second =
    let q = site_overlap first second in
    let test = λ (i : ℕ). term first second i (steps_on l i d 1) in
    terms-same (λ i. q i *ℤ q (steps_ahead l i d 1)) (λ i. pos (2 * one_if (test i)) -ℤ pos 1) (volume l)
    (λ i below. ap (λ k. q i *ℤ q k) (one-ahead l i d) ∙ signs (overlap_at first second i) (overlap_at first second (steps_on l i d 1)))
    ∙ counted test (volume l)

three : (f : ℕ → ℤ) → sum_of f 3 ≡ f 0 +ℤ f 1 +ℤ f 2
unfolding sum_of
three f = omega (arith, ints)

pub links-counted : (l : ℕ) (first second : List Bool)
    → link_overlap l (site_overlap first second) ≡ pos (2 * agreeing_bonds l first second) -ℤ pos (bond_count l)
links-counted l first second =
    let q = site_overlap first second in
    let all = three (λ d. sum_of (λ i. q i *ℤ q (steps_ahead l i d 1)) (volume l)) in
    let x = line l 0 first second in
    let y = line l 1 first second in
    let z = line l 2 first second in
    let bonds = bonds-are-lines l first second in
    omega (arith, ints)
