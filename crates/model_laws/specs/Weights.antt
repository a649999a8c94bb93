-- Boltzmann's weights of the configurations of one disorder sample, as whole numbers. The numbers U of their unsatisfied
-- bonds are equal modulo 2, so their energies 2 U - 3 V are whole multiples of 4 apart; a / b stands for exp(-4 beta).
use Rattle.std.specs.Prelude.{◌≡◌, ℕ, ◌*◌, ◌/◌, ◌-◌, ◌^◌, pos, ◌+ℤ◌, List, Bool}
use Rattle.spin_model.specs.Couplings.{Bonds}
use Rattle.spin_model.specs.Lattice.{bond_count}
use Rattle.scalar_rule.specs.Sums.{unsatisfied, energy}

-- a factor a for each two unsatisfied bonds, and b for each other of a number that all configurations share
abbrev pub weight : ℕ → ℕ → ℕ → Bonds → List Bool → ℕ
weight a b l bonds spins = a ^ (unsatisfied l bonds spins / 2) * b ^ (bond_count l - unsatisfied l bonds spins / 2)

-- the weights are Boltzmann's: an energy greater by 4 m makes a configuration (a / b) ^ m = exp(-4 m beta) times as likely
abbrev pub WeightsAreBoltzmann : Type 0
WeightsAreBoltzmann = (a b l : ℕ) (bonds : Bonds) (s t : List Bool) (m : ℕ) → energy l bonds t ≡ energy l bonds s +ℤ pos (4 * m)
    → weight a b l bonds t * b ^ m ≡ weight a b l bonds s * a ^ m
