-- From a packed state to the next one: the sweeps of a slot, and of a bank.
use Rattle.std.specs.Prelude.{◌≡◌, ℕ, ◌<◌, ◌≤◌, List, length, slice_index_or}
use Rattle.scalar_rule.specs.Plan.{Plan}
use Rattle.plane_sweep.specs.Packed.{part, part_slot, FitsDuo, StandFits}
use Rattle.plane_sweep.specs.Storing.{Changed}
use Rattle.plane_sweep.specs.declared.replica.Duo.{Duo}
use Rattle.plane_sweep.specs.declared.stand.Stand.{Stand}
use Rattle.quenched_states.specs.StillRule.{still, still_slot}

-- slot t after the sweeps of so many epochs, in each sample
pub record IsStillSlot (plan : Plan) (epochs t : ℕ) (old new : Duo) : Type 0 where
  pub swept : (b : ℕ) → b < 64 → part_slot plan.size b new ≡ still_slot plan b t epochs (part_slot plan.size b old)
  pub fits : FitsDuo plan.size new

-- the packed state of a bank at an epoch to which it is swept without exchange
pub record IsStill (plan : Plan) (time : ℕ) (old new : Stand) : Type 0 where
  pub states : (b : ℕ) → b < 64 → part plan.size b new ≡ still plan (part plan.size b old) time
  pub fits : StandFits plan new
  pub epoch : new.epoch ≡ time

-- of several banks, that of bank g, by its plan
abbrev pub IsStillBank : List Plan → ℕ → ℕ → Stand → Stand → Type 0
IsStillBank plans time g old new = (d : Plan) → IsStill (slice_index_or plans g d) time old new

-- all banks so
abbrev pub AreStill : List Plan → ℕ → List Stand → List Stand → Type 0
AreStill plans time old new = Changed (IsStillBank plans time) (length old) old new

-- bank g fits its plan, and is at an epoch no later than this
pub record CanSweep (plans : List Plan) (time g : ℕ) (bank : Stand) : Type 0 where
  pub within : g < length plans
  pub fits : (d : Plan) → StandFits (slice_index_or plans g d) bank
  pub in_time : bank.epoch ≤ time
