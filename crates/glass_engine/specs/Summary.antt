-- The summary of a run whose plan is made from a number: of each slot the energies of its last record, summed over the samples,
-- and in how many samples its first replica began in another slot.
use Rattle.std.specs.Prelude.{◌≡◌, ℕ, ◌-◌, ◌≤◌, ◌+ℤ◌, ℤ, ◌==◌, not, true, List, [], ◌∷◌, ◌++◌, flat_map}
use Rattle.spin_model.specs.Limits.{every_take}
use Rattle.spin_model.specs.Steps.{table, count_below}
use Rattle.spin_model.specs.SignedSums.{sum_of}
use Rattle.report_text.specs.Lines.{summary_line, slot_line, end_line}
use Rattle.scalar_rule.specs.Epoch.{slot_at}
use Rattle.scalar_rule.specs.Plan.{Plan, slots_of}
use Rattle.scalar_rule.specs.Records.{is_recorded, measured_from, record_at}
use Rattle.scalar_rule.specs.Serial.{serial}
use Rattle.scalar_rule.specs.declared.sample.PlainSlot.{PlainSlot}
use Rattle.scalar_rule.specs.declared.sample.Record.{Record}
use Rattle.scalar_rule.specs.declared.sample.Sample.{Sample}
use Rattle.plane_sweep.specs.Packed.{StandFits, StandsFor}
use Rattle.plane_sweep.specs.Uneven.{level_stand}
use Rattle.plane_sweep.specs.declared.stand.Stand.{Stand}
use Rattle.glass_engine.specs.Runs.{RunView}

-- the energies of both replicas in the record of slot t
abbrev pub both_energies : List Record → ℕ → ℤ
both_energies records t = (record_at records t).first_energy +ℤ (record_at records t).second_energy

-- the line of slot t, where `measured b` are the records of sample b in the last epoch and `contents b` its slots after it
abbrev pub slot_sums : (ℕ → List Record) → (ℕ → List PlainSlot) → ℕ → List ℕ
slot_sums measured contents t =
    slot_line t (sum_of (λ b. both_energies (measured b) t) 64) (count_below (λ b. not ((slot_at (contents b) t).first.replica == t)) 64)

-- the whole text
unfoldable pub summary_text : ℕ → Plan → (ℕ → List Record) → (ℕ → List PlainSlot) → ℕ → List ℕ
summary_text n plan measured contents until =
    summary_line n plan 64 until ++ flat_map (slot_sums measured contents) (table (λ t. t) (slots_of plan)) ++ end_line until

-- of a run of 64 samples by the serial dynamics, from the states `start b`, to epoch e
abbrev pub summary : ℕ → Plan → (ℕ → Sample) → ℕ → List ℕ
summary n plan start e = summary_text n plan (λ b. measured_from plan start b (e - 1)) (λ b. (serial plan (start b) e).slots) e

-- a bank's run starts with every slot at rest at epoch 0, from a packed state of these states of its samples
pub record BeginsLevel (run : RunView) (start : ℕ → Sample) : Type 0 where
  pub stand : Stand
  pub base : run.base ≡ level_stand stand
  pub fits : StandFits run.plan stand
  pub first : stand.epoch ≡ 0
  pub stands : StandsFor run.plan start stand

-- the run of one bank of 64 samples of this plan, from these states to epoch e, the epoch before which is recorded
pub record IsSummed (plan : Plan) (start : ℕ → Sample) (e : ℕ) (runs : List RunView) : Type 0 where
  pub run : RunView
  pub one : runs ≡ run ∷ []
  pub plan_is : run.plan ≡ plan
  pub begins : BeginsLevel run start
  pub takes : run.takes ≡ every_take
  pub samples : run.orders.samples ≡ 64
  pub until : run.until ≡ e
  pub some : 1 ≤ e
  pub recorded : is_recorded run.orders.every (e - 1) ≡ true
