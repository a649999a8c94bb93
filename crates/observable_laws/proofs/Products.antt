-- Counts of agreements as sums of products of signs.
use Rattle.std.proofs.Common.{◌≡◌, ℕ, zero, suc, ◌*◌, ◌/◌, ◌%◌, Bool, true, false, not, cond, ◌&&◌, List, ℤ, refl, arith}
use Rattle.std.specs.Prelude.{pos, neg_ℤ, ◌-ℤ◌, ◌*ℤ◌}
use Rattle.std.proofs.lemmas.Int.{ints}
use Rattle.spin_model.specs.Words.{one_if}
use Rattle.spin_model.specs.Steps.{count_below}
use Rattle.spin_model.specs.Couplings.{Bonds}
use Rattle.spin_model.specs.Lattice.{volume, bond_count, forward}
use Rattle.spin_model.specs.SignedSums.{sum_of}
use Rattle.scalar_rule.specs.Neighbours.{spin, agree}
use Rattle.scalar_rule.specs.Sums.{overlap}
use Rattle.model_laws.specs.Energies.{sign}
use Rattle.overlap_lines.specs.Overlaps.{steps_on, term, link_sum, line_sum}
use Rattle.potts_glass.specs.Potts.{is_equal, is_raising, is_lowering, energy}
use Rattle.observable_laws.specs.Observables.{overlap_value, potts_value}

one-product : (x y : Bool) → sign x *ℤ sign y ≡ pos (2 * one_if (agree x y)) -ℤ pos 1
one-product true true = refl
one-product true false = refl
one-product false true = refl
one-product false false = refl

two-products : (w x y z : Bool) → sign w *ℤ sign x *ℤ (sign y *ℤ sign z) ≡ pos (2 * one_if (agree (agree w x) (agree y z))) -ℤ pos 1
two-products true true true true = refl
two-products true true true false = refl
two-products true true false true = refl
two-products true true false false = refl
two-products true false true true = refl
two-products true false true false = refl
two-products true false false true = refl
two-products true false false false = refl
two-products false true true true = refl
two-products false true true false = refl
two-products false true false true = refl
two-products false true false false = refl
two-products false false true true = refl
two-products false false true false = refl
two-products false false false true = refl
two-products false false false false = refl

-- where each term is +1 or -1 by a test, the sum is twice what passes less all
terms-counted : (test : ℕ → Bool) (value : ℕ → ℤ) (n : ℕ) → ((i : ℕ) → value i ≡ pos (2 * one_if (test i)) -ℤ pos 1)
    → pos (2 * count_below test n) -ℤ pos n ≡ sum_of value n
unfolding sum_of count_below
terms-counted test value zero each = refl
terms-counted test value (suc n) each =
    let before = terms-counted test value n each in
    let last = each n in
    omega (arith, ints)

pub overlap-sum : (l : ℕ) (first second : List Bool) → overlap l first second ≡ sum_of (overlap_value first second) (volume l)
overlap-sum l first second =
    terms-counted (λ i. agree (spin first i) (spin second i)) (overlap_value first second) (volume l) (λ i. one-product (spin first i) (spin second i))

-- q q' of two sites
pub pair-value : (first second : List Bool) (i k : ℕ)
    → overlap_value first second i *ℤ overlap_value first second k ≡ pos (2 * one_if (term first second i k)) -ℤ pos 1
pair-value first second i k = two-products (spin first i) (spin second i) (spin first k) (spin second k)

pub link-sum : (l : ℕ) (first second : List Bool) → link_sum l first second
    ≡ sum_of (λ n. overlap_value first second (n / 3) *ℤ overlap_value first second (forward l (n / 3) (n % 3))) (bond_count l)
link-sum l first second =
    terms-counted (λ n. term first second (n / 3) (forward l (n / 3) (n % 3)))
    (λ n. overlap_value first second (n / 3) *ℤ overlap_value first second (forward l (n / 3) (n % 3))) (bond_count l)
    (λ n. pair-value first second (n / 3) (forward l (n / 3) (n % 3)))

pub line-sum : (l : ℕ) (first second : List Bool) (d r : ℕ) → line_sum l first second d r
    ≡ sum_of (λ i. overlap_value first second i *ℤ overlap_value first second (steps_on l i d r)) (volume l)
line-sum l first second d r =
    terms-counted (λ i. term first second i (steps_on l i d r))
    (λ i. overlap_value first second i *ℤ overlap_value first second (steps_on l i d r)) (volume l)
    (λ i. pair-value first second i (steps_on l i d r))

-- ---- the Potts glass

one-bond : (j e : Bool) → cond e (neg_ℤ (sign (not j))) (pos 0) ≡ pos (one_if (j && e)) -ℤ pos (one_if (not j && e))
one-bond true true = refl
one-bond true false = refl
one-bond false true = refl
one-bond false false = refl

bonds-counted : (l : ℕ) (bonds : Bonds) (colours : List ℕ) (n : ℕ)
    → pos (count_below (is_raising l bonds colours) n) -ℤ pos (count_below (is_lowering l bonds colours) n) ≡ sum_of (potts_value l bonds colours) n
unfolding sum_of count_below
bonds-counted l bonds colours zero = refl
bonds-counted l bonds colours (suc n) =
    let before = bonds-counted l bonds colours n in
    let last = one-bond (bonds n) (is_equal l colours n) in
    omega (arith, ints)

pub potts-energy : (l : ℕ) (bonds : Bonds) (colours : List ℕ) → energy l bonds colours ≡ sum_of (potts_value l bonds colours) (bond_count l)
potts-energy l bonds colours = bonds-counted l bonds colours (bond_count l)
