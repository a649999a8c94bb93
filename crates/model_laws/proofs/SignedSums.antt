-- Sums of signed numbers against counts: the energy is that of the Hamiltonian.
use Rattle.std.proofs.Common.{◌≡◌, ℕ, zero, suc, ◌*◌, ◌/◌, ◌%◌, Bool, true, false, not, List, refl, arith}
use Rattle.std.specs.Prelude.{pos, ◌-ℤ◌, ◌*ℤ◌}
use Rattle.std.proofs.lemmas.Int.{ints}
use Rattle.spin_model.specs.Words.{one_if}
use Rattle.spin_model.specs.Steps.{count_below}
use Rattle.spin_model.specs.Couplings.{Bonds}
use Rattle.spin_model.specs.Lattice.{bond_count, forward}
use Rattle.spin_model.specs.SignedSums.{sum_of}
use Rattle.scalar_rule.specs.Neighbours.{spin, coupled, agree}
use Rattle.scalar_rule.specs.Sums.{is_unsatisfied, energy}
use Rattle.model_laws.specs.Energies.{sign, bond_value, hamiltonian}

-- J s s' is 1 less twice the bond if it is unsatisfied
bond-value : (j x y : Bool) → sign (not j) *ℤ sign x *ℤ sign y ≡ pos 1 -ℤ pos (2 * one_if (not (agree (coupled j y) x)))
bond-value true true true = refl
bond-value true true false = refl
bond-value true false true = refl
bond-value true false false = refl
bond-value false true true = refl
bond-value false true false = refl
bond-value false false true = refl
bond-value false false false = refl

sum-value : (l : ℕ) (bonds : Bonds) (spins : List Bool) (n : ℕ) → sum_of (bond_value l bonds spins) n ≡ pos n -ℤ pos (2 * count_below (is_unsatisfied l bonds spins) n)
unfolding sum_of count_below
sum-value l bonds spins zero = refl
sum-value l bonds spins (suc n) =
    let before = sum-value l bonds spins n in
    let last = bond-value (bonds n) (spin spins (n / 3)) (spin spins (forward l (n / 3) (n % 3))) in
    omega (arith, ints)

pub energy-value : (l : ℕ) (bonds : Bonds) (spins : List Bool) → energy l bonds spins ≡ hamiltonian l bonds spins
energy-value l bonds spins = let whole = sum-value l bonds spins (bond_count l) in omega (arith, ints)
