-- Link overlaps and correlation lines of two replicas in one disorder sample. With q the product of the two replicas' spins at a
-- site, terms are products of q at two sites: at both ends of a bond, or at two sites some steps apart along an axis.
use Rattle.std.specs.Prelude.{ℕ, ℤ, zero, suc, ◌*◌, ◌/◌, ◌%◌, pos, ◌-ℤ◌, Bool, List}
use Rattle.spin_model.specs.Steps.{count_below}
use Rattle.spin_model.specs.Lattice.{volume, bond_count, forward}
use Rattle.scalar_rule.specs.Neighbours.{spin, agree}

-- the site r steps on from site i in direction d, around the boundary
unfoldable pub steps_on : ℕ → ℕ → ℕ → ℕ → ℕ
steps_on l i d zero = i
steps_on l i d (suc r) = forward l (steps_on l i d r) d

-- q = +1 at site i: both replicas have the same spin there
abbrev pub overlap_at : List Bool → List Bool → ℕ → Bool
overlap_at first second i = agree (spin first i) (spin second i)

-- q q' = +1 for the sites i and k
abbrev pub term : List Bool → List Bool → ℕ → ℕ → Bool
term first second i k = agree (overlap_at first second i) (overlap_at first second k)

-- how many of the 3V bonds have q q' = +1; bond n joins site n div 3 to its forward neighbour in direction n mod 3
abbrev pub agreeing_bonds : ℕ → List Bool → List Bool → ℕ
agreeing_bonds l first second = count_below (λ n. term first second (n / 3) (forward l (n / 3) (n % 3))) (bond_count l)

-- at how many of the V sites q q' = +1 with the site r steps on in direction d
abbrev pub agreeing_line : ℕ → List Bool → List Bool → ℕ → ℕ → ℕ
agreeing_line l first second d r = count_below (λ i. term first second i (steps_on l i d r)) (volume l)

-- A = sum of q q' over all bonds, which is 2 n - 3 V; divided by 3 V it is the link overlap
abbrev pub link_sum : ℕ → List Bool → List Bool → ℤ
link_sum l first second = pos (2 * agreeing_bonds l first second) -ℤ pos (bond_count l)

-- B = sum of q q' over all sites and the sites r steps on in direction d, which is 2 n - V
abbrev pub line_sum : ℕ → List Bool → List Bool → ℕ → ℕ → ℤ
line_sum l first second d r = pos (2 * agreeing_line l first second d r) -ℤ pos (volume l)
