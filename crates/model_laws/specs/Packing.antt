-- The history of one of the 64 samples in the bits of a packed state, whatever the others are.
use Rattle.std.specs.Prelude.{◌≡◌, ℕ, slice_index}
use Rattle.spin_model.specs.Words.{is_set}
use Rattle.scalar_rule.specs.Plan.{Plan}
use Rattle.scalar_rule.specs.Epoch.{epoch_records}
use Rattle.scalar_rule.specs.Serial.{serial}
use Rattle.plane_sweep.specs.Packed.{part}
use Rattle.plane_sweep.specs.declared.stand.Stand.{Stand}

-- two plans with the same lattice, tables and sweeps, and with bit b the same in each word of their couplings
pub record AgreeInSample (b : ℕ) (plan other : Plan) : Type 0 where
  pub size : plan.size ≡ other.size
  pub rules : plan.rules ≡ other.rules
  pub swaps : plan.swaps ≡ other.swaps
  pub sweeps : plan.sweeps ≡ other.sweeps
  pub lattice : plan.couplings.size ≡ other.couplings.size
  pub couplings : (k : ℕ) → is_set (slice_index plan.couplings.words k) b ≡ is_set (slice_index other.couplings.words k) b

-- two packed states that agree in sample b have the same state and the same records of sample b at every epoch, however
-- much the other samples and their couplings differ
abbrev pub OtherSamplesDontMatter : Type 0
OtherSamplesDontMatter = (plan other : Plan) (stand beside : Stand) (b e : ℕ) → AgreeInSample b plan other
    → part plan.size b stand ≡ part other.size b beside
    → (serial plan (part plan.size b stand) e ≡ serial other (part other.size b beside) e)
    × (epoch_records plan (serial plan (part plan.size b stand) e) ≡ epoch_records other (serial other (part other.size b beside) e))
