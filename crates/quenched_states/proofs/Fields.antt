-- Overlap fields of copies: three of them, and sums over pairs of sites.
use Rattle.std.proofs.Common.{◌≡◌, ℕ, zero, suc, ◌+◌, ◌*◌, ◌<◌, ◌≤◌, Bool, true, false, List, ℤ, pos, nat_abs, ◌+ℤ◌, ◌*ℤ◌, ◌≤ℤ◌, cond, neg_ℤ, arith}
use Rattle.std.proofs.lemmas.Int.{ints}
use Rattle.std.proofs.lemmas.Nat.{mul-le}
use Rattle.spin_model.specs.SignedSums.{sum_of}
use Rattle.spin_model.specs.Lattice.{volume}
use Rattle.scalar_rule.specs.Neighbours.{spin, agree}
use Rattle.measured_sums.specs.OverlapField.{Field, site_overlap, total_overlap, distance_correlation, steps_ahead}
use Rattle.measured_sums.proofs.BoundedSums.{abs-product, sum-bound}

-- ---- three configurations

abbrev product_of : Bool → Bool → ℤ
product_of x y = cond (agree x y) (pos 1) (neg_ℤ (pos 1))

three-spins : (x y z : Bool) → pos 0 ≤ℤ (product_of x y +ℤ product_of y z +ℤ product_of x z +ℤ pos 1)
three-spins true true true = omega (arith, ints)
three-spins true true false = omega (arith, ints)
three-spins true false true = omega (arith, ints)
three-spins true false false = omega (arith, ints)
three-spins false true true = omega (arith, ints)
three-spins false true false = omega (arith, ints)
three-spins false false true = omega (arith, ints)
three-spins false false false = omega (arith, ints)

three-sums : (a b c : List Bool) (n : ℕ) → pos 0 ≤ℤ (sum_of (site_overlap a b) n +ℤ sum_of (site_overlap b c) n +ℤ sum_of (site_overlap a c) n +ℤ pos n)
unfolding sum_of
three-sums a b c zero = omega (arith, ints)
three-sums a b c (suc n) =
    let before = three-sums a b c n in
    let here = three-spins (spin a n) (spin b n) (spin c n) in
    omega (arith, ints)

pub triangles : (l : ℕ) (a b c : List Bool)
    → pos 0 ≤ℤ (total_overlap l (site_overlap a b) +ℤ total_overlap l (site_overlap b c) +ℤ total_overlap l (site_overlap a c) +ℤ pos (volume l))
triangles l a b c = three-sums a b c (volume l)

-- ---- pairs of sites

pub distance-bound : (l : ℕ) (q : Field) (r : ℕ) → ((i : ℕ) → nat_abs (q i) ≤ 1) → nat_abs (distance_correlation l q r) ≤ 3 * volume l
distance-bound l q r each = sum-bound (λ d. sum_of (λ i. q i *ℤ q (steps_ahead l i d r)) (volume l)) (volume l) 3 (λ d _.
    let row = sum-bound (λ i. q i *ℤ q (steps_ahead l i d r)) 1 (volume l) (λ i _.
    let product = abs-product (q i) (q (steps_ahead l i d r)) in
    let most = mul-le (nat_abs (q i)) (nat_abs (q (steps_ahead l i d r))) 1 1 (each i) (each (steps_ahead l i d r)) in
    omega arith) in
    omega arith)
