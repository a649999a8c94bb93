-- Boltzmann's weights of a sample's configurations as whole numbers, and the thresholds that belong to them: a / b stands for
-- exp(-beta), since energies are 1 apart.
use Rattle.std.specs.Prelude.{ℕ, ◌+◌, ◌-◌, ◌*◌, ◌^◌, ◌≤◌, List, slice_index}
use Rattle.finite_chance.specs.Chains.{AreNear}
use Rattle.spin_model.specs.Couplings.{Bonds}
use Rattle.spin_model.specs.Lattice.{bond_count}
use Rattle.spin_model.specs.Steps.{count_below}
use Rattle.potts_glass.specs.Potts.{Dynamics, is_raising, is_lowering}

-- the energy, and one for each bond: from 0 to twice the bonds
abbrev pub height : ℕ → Bonds → List ℕ → ℕ
height l bonds colours =
    count_below (is_raising l bonds colours) (bond_count l) + (bond_count l - count_below (is_lowering l bonds colours) (bond_count l))

-- a factor a for each unit of height, and b for each that it lacks of twice the bonds
abbrev pub weight : ℕ → ℕ → ℕ → Bonds → List ℕ → ℕ
weight a b l bonds colours = a ^ height l bonds colours * b ^ (2 * bond_count l - height l bonds colours)

abbrev pub weight_of : ℕ → ℕ → Dynamics → List ℕ → ℕ
weight_of a b d colours = weight a b d.size d.bonds colours

-- the threshold for the gap g is 2 ^ 32 (a / b) ^ g = 2 ^ 32 exp(-beta g), to within r / s
pub record IsThreshold (r s a b : ℕ) (thresholds : List ℕ) (g : ℕ) : Type 0 where
  pub limited : slice_index thresholds (g - 1) ≤ 2 ^ 32
  pub near : AreNear (r * b ^ g) (s * (slice_index thresholds (g - 1) * b ^ g)) (s * (2 ^ 32 * a ^ g))

-- all six do
abbrev pub AreThresholds : ℕ → ℕ → ℕ → ℕ → List ℕ → Type 0
AreThresholds r s a b thresholds = (g : ℕ) → 1 ≤ g → g ≤ 6 → IsThreshold r s a b thresholds g
