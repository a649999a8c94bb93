-- The energy as the Hamiltonian of Edwards and Anderson (J. Phys. F 5, 965 (1975)) has it, with spins and couplings as
-- signed numbers, and what it costs to turn a spin.
use Rattle.std.specs.Prelude.{◌≡◌, ℕ, ◌+◌, ◌*◌, ◌/◌, ◌%◌, ◌<◌, ◌≤◌, ℤ, pos, neg_ℤ, ◌+ℤ◌, ◌-ℤ◌, ◌*ℤ◌, Bool, true, false, not, List, length, slice_set}
use Rattle.spin_model.specs.Couplings.{Bonds}
use Rattle.spin_model.specs.Lattice.{IsLawfulSize, volume, bond_count, forward}
use Rattle.spin_model.specs.SignedSums.{sum_of}
use Rattle.scalar_rule.specs.Neighbours.{spin, aligned, satisfied}
use Rattle.scalar_rule.specs.Sums.{unsatisfied, energy}

-- +1 or -1
abbrev pub sign : Bool → ℤ
sign true = pos 1
sign false = neg_ℤ (pos 1)

-- s of site i
abbrev pub spin_value : List Bool → ℕ → ℤ
spin_value spins i = sign (spin spins i)

-- J of bond n
abbrev pub coupling_value : Bonds → ℕ → ℤ
coupling_value bonds n = sign (not (bonds n))

-- J s s' of bond n, which joins site n div 3 to its forward neighbour in direction n mod 3
abbrev pub bond_value : ℕ → Bonds → List Bool → ℕ → ℤ
bond_value l bonds spins n =
    coupling_value bonds n *ℤ spin_value spins (n / 3) *ℤ spin_value spins (forward l (n / 3) (n % 3))

-- H = - sum over all bonds of J s s'
abbrev pub hamiltonian : ℕ → Bonds → List Bool → ℤ
hamiltonian l bonds spins = neg_ℤ (sum_of (bond_value l bonds spins) (bond_count l))

-- the configuration with the spin at site i turned
abbrev pub turned : List Bool → ℕ → List Bool
turned spins i = slice_set spins i (not (spin spins i))

-- ---- the laws

-- the energy E = 2 U - 3 V of the records is that of the Hamiltonian
abbrev pub EnergyIsHamiltonian : Type 0
EnergyIsHamiltonian = (l : ℕ) (bonds : Bonds) (spins : List Bool) → energy l bonds spins ≡ hamiltonian l bonds spins

-- U is from 0 to 3 V, so E is from - 3 V to 3 V
abbrev pub UnsatisfiedAreBonds : Type 0
UnsatisfiedAreBonds = (l : ℕ) (bonds : Bonds) (spins : List Bool) → unsatisfied l bonds spins ≤ bond_count l

-- turning the spin at a site costs 4 k - 12, k its satisfied bonds
abbrev pub TurningCosts : Type 0
TurningCosts = (l : ℕ) (bonds : Bonds) (spins : List Bool) (i : ℕ) → IsLawfulSize l → length spins ≡ volume l → i < volume l
    → energy l bonds (turned spins i) ≡ energy l bonds spins +ℤ (pos (4 * satisfied l bonds spins i) -ℤ pos 12)

-- and leaves as many neighbours aligned, and exchanges the satisfied bonds of the site for the others
abbrev pub TurningExchangesBonds : Type 0
TurningExchangesBonds = (l : ℕ) (bonds : Bonds) (spins : List Bool) (i : ℕ) → IsLawfulSize l → length spins ≡ volume l → i < volume l
    → (aligned l bonds (turned spins i) i ≡ aligned l bonds spins i) × (satisfied l bonds (turned spins i) i + satisfied l bonds spins i ≡ 6)
