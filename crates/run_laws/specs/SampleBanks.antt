-- What holds of the samples of a run of several banks: each is a sample of its own bank, at every epoch from the opening states on.
use Rattle.std.specs.Prelude.{◌≡◌, ℕ, ◌+◌, ◌*◌, ◌<◌, List, ◌∷◌, ◌++◌, length}
use Rattle.glass_engine.specs.BankLaws.{banks_with}
use Rattle.glass_engine.specs.Banks.{banks_measured, banks_slots}
use Rattle.scalar_rule.specs.Opening.{opening}
use Rattle.scalar_rule.specs.Plan.{Plan}
use Rattle.scalar_rule.specs.Records.{measured_from}
use Rattle.scalar_rule.specs.Serial.{serial}
use Rattle.scalar_rule.specs.declared.sample.Sample.{Sample}
use Rattle.glass_main.specs.ManyBanks.{PlannedBanks, banks_opened_by}
use Rattle.glass_main.specs.SampleLaws.{sample_state}

-- the records of sample 64g + m at each epoch, its slots and its whole state are those of bit m by the plan of bank g, from the
-- opening state with the labels of that bank
pub record IsOfBank (planned : PlannedBanks) (plan : Plan) (g m : ℕ) : Type 0 where
  pub records : (f : ℕ) → banks_measured (banks_with planned.plans (banks_opened_by planned)) (64 * g + m) f ≡ measured_from plan (opening plan planned.orders.start g) m f
  pub slots : (e : ℕ) → banks_slots (banks_with planned.plans (banks_opened_by planned)) e (64 * g + m) ≡ (serial plan (opening plan planned.orders.start g m) e).slots
  pub state : (none : Sample) (e : ℕ) → sample_state none (banks_with planned.plans (banks_opened_by planned)) e (64 * g + m) ≡ serial plan (opening plan planned.orders.start g m) e

-- the plan of bank g is the one that g plans stand before
abbrev pub SamplesAreOfTheirBanks : Type 0
SamplesAreOfTheirBanks = (planned : PlannedBanks) (before more : List Plan) (plan : Plan) (m : ℕ) → planned.plans ≡ before ++ plan ∷ more → m < 64 → IsOfBank planned plan (length before) m
