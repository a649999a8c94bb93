-- The energy of one configuration of spins, and the overlap of two, as sums over the bonds and over the sites.
use Rattle.std.specs.Prelude.{ℕ, ◌*◌, ◌/◌, ◌%◌, ℤ, pos, ◌-ℤ◌, Bool, not, List}
use Rattle.spin_model.specs.Steps.{count_below}
use Rattle.spin_model.specs.Couplings.{Bonds}
use Rattle.spin_model.specs.Lattice.{volume, bond_count, forward}
use Rattle.scalar_rule.specs.Neighbours.{spin, coupled, agree}

-- bond n joins site n div 3 to its forward neighbour in direction n mod 3; it is unsatisfied where J s s' = -1
abbrev pub is_unsatisfied : ℕ → Bonds → List Bool → ℕ → Bool
is_unsatisfied l bonds spins n =
    not (agree (coupled (bonds n) (spin spins (forward l (n / 3) (n % 3)))) (spin spins (n / 3)))

-- U: how many bonds are unsatisfied
abbrev pub unsatisfied : ℕ → Bonds → List Bool → ℕ
unsatisfied l bonds spins = count_below (is_unsatisfied l bonds spins) (bond_count l)

-- E = - sum of J s s' over all bonds, which is 2 U - 3 V
abbrev pub energy : ℕ → Bonds → List Bool → ℤ
energy l bonds spins = pos (2 * unsatisfied l bonds spins) -ℤ pos (bond_count l)

-- Q: at how many sites two configurations agree
abbrev pub agreeing : ℕ → List Bool → List Bool → ℕ
agreeing l a b = count_below (λ i. agree (spin a i) (spin b i)) (volume l)

-- q = sum over the sites of the product of the two spins, which is 2 Q - V
abbrev pub overlap : ℕ → List Bool → List Bool → ℤ
overlap l a b = pos (2 * agreeing l a b) -ℤ pos (volume l)
