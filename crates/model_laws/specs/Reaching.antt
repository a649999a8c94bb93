-- What heat bath can reach where no threshold is 0 or 2 ^ 32.
use Rattle.std.specs.Prelude.{◌≡◌, ℕ, ◌^◌, ◌<◌, ◌≤◌, Bool, List, length, slice_index}
use Rattle.spin_model.specs.Lattice.{IsLawfulSize, volume}
use Rattle.spin_model.specs.SiteRule.{HeatBath}
use Rattle.scalar_rule.specs.Neighbours.{spin, aligned}
use Rattle.scalar_rule.specs.Sweep.{Dynamics}
use Rattle.model_laws.specs.Balance.{updated_by}
use Rattle.model_laws.specs.Order.{half_swept}

-- a threshold leaves both cases open
pub record IsOpen (threshold : ℕ) : Type 0 where
  pub some : 0 < threshold
  pub not_all : threshold < 2 ^ 32

-- from every configuration both spins can come at every site whose threshold is open
abbrev pub BothSpinsCanCome : Type 0
BothSpinsCanCome = (d : Dynamics) (spins : List Bool) (i : ℕ) (new : Bool) → d.rule ≡ HeatBath → i < length spins
    → IsOpen (slice_index d.thresholds (aligned d.size d.bonds spins i))
    → (u : ℕ) × (u < 2 ^ 32) × (spin (updated_by d spins i u) i ≡ new)

-- a sweep with draw `draw_at i` at site i
abbrev pub swept_by : Dynamics → (ℕ → ℕ) → List Bool → List Bool
swept_by d draw_at spins = half_swept d draw_at 1 (half_swept d draw_at 0 spins)

-- and where all seven thresholds are open, from every configuration every other can come in one sweep
abbrev pub EveryConfigurationCanCome : Type 0
EveryConfigurationCanCome = (d : Dynamics) (spins target : List Bool) → d.rule ≡ HeatBath → IsLawfulSize d.size
    → length spins ≡ volume d.size → length target ≡ volume d.size → ((a : ℕ) → a ≤ 6 → IsOpen (slice_index d.thresholds a))
    → (draw_at : ℕ → ℕ) × ((i : ℕ) → draw_at i < 2 ^ 32) × (swept_by d draw_at spins ≡ target)
