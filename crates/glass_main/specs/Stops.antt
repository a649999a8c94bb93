-- Runs that may stop with their slots at different epochs: where such a run came to, what it prints and what it saves.
use Rattle.std.specs.Prelude.{◌≡◌, ℕ, ◌+◌, ◌-◌, ◌*◌, ◌<◌, ◌≤◌, min, true, ◌&&◌, if◌then◌else◌, List, [], ◌++◌, Option, Some, None}
use Rattle.report_text.specs.Lines.{header_line, end_line}
use Rattle.scalar_rule.specs.Laws.{IsReached, level_start}
use Rattle.scalar_rule.specs.Plan.{Plan, slots_of}
use Rattle.scalar_rule.specs.Positions.{done, position_in, floor_of, deepest_of, pending_record, uneven_record}
use Rattle.scalar_rule.specs.Ragged.{Position, UnevenState, all_ready}
use Rattle.scalar_rule.specs.Records.{is_recorded, measured_from}
use Rattle.scalar_rule.specs.Serial.{serial}
use Rattle.scalar_rule.specs.declared.sample.Record.{Record}
use Rattle.plane_sweep.specs.Uneven.{positions_of, uneven_part, RaggedStandFits}
use Rattle.plane_sweep.specs.declared.uneven.RaggedStand.{RaggedStand}
use Rattle.run_checkpoint.specs.Encoding.{AreBankStates, uneven_encoding}
use Rattle.glass_engine.specs.Report.{rows_in_order, uneven_measured, all_rest, all_spins}
use Rattle.glass_engine.specs.Runs.{hand_outs}
use Rattle.glass_main.specs.Beginnings.{Beginning, Level, Uneven, begins_at, run_text, state_at, run_checkpoint}
use Rattle.glass_main.specs.declared.planned.Planned.{Planned}

-- ---- what a run starts from, slot by slot

-- the states of the samples, and the records that are kept ahead
abbrev pub states_of : Plan → Beginning → ℕ → UnevenState
states_of plan (Level start) = λ b. level_start plan (start b)
states_of plan (Uneven stand) = λ b. uneven_part plan.size b stand

abbrev pub kept_of : Beginning → List Record
kept_of (Level start) = []
kept_of (Uneven stand) = stand.pending

-- ---- where a run can come to

-- a state that a run comes to from another: it fits; no slot has completed less than all had; in each of the 64 samples the
-- content of every slot, and the generators of every pair, are those of the rule at their positions; and the records that it
-- keeps ahead of the least completed epoch are the rule's
pub record Reaches (plan : Plan) (samples every : ℕ) (from : Beginning) (came : RaggedStand) : Type 0 where
  pub fits : RaggedStandFits plan samples every came
  pub since : begins_at from ≤ floor_of (positions_of came)
  pub reached : (b : ℕ) → b < 64 → IsReached plan (states_of plan from b) (uneven_part plan.size b came)
  pub kept : (b f t : ℕ) → b < samples → t < slots_of plan → floor_of (positions_of came) ≤ f → f < done (position_in (positions_of came) t) → is_recorded every f ≡ true
      → pending_record samples every (positions_of came) came.pending b f t ≡ uneven_record plan (states_of plan from) (kept_of from) samples every b f t

-- where a run comes to that goes to epoch until and stops after so many hand-outs of a slot: it has made so many, or as many
-- as were left to that epoch
pub record ComesTo (planned : Planned) (from : Beginning) (until takes : ℕ) (came : RaggedStand) : Type 0 where
  pub reaches : Reaches planned.plan planned.orders.samples planned.orders.every from came
  pub within : deepest_of (positions_of came) ≤ until
  pub made : hand_outs planned.plan (positions_of came)
      ≡ hand_outs planned.plan (states_of planned.plan from 0).positions
      + min takes (slots_of planned.plan * until - hand_outs planned.plan (states_of planned.plan from 0).positions)

-- ---- what it prints and saves

-- the rows of the epochs below e: from states at one epoch those of the serial dynamics, sample by sample
abbrev pub rows_to : Plan → ℕ → ℕ → Beginning → ℕ → List ℕ
rows_to plan samples every (Level start) e = rows_in_order (measured_from plan start) samples every (start 0).epoch e
rows_to plan samples every (Uneven stand) e =
    rows_in_order (uneven_measured plan (λ b. uneven_part plan.size b stand) stand.pending samples every) samples every (floor_of (positions_of stand)) e

-- the spins with every slot at rest at epoch e
abbrev pub spins_at : Plan → ℕ → Beginning → ℕ → List ℕ
spins_at plan samples (Level start) e = all_spins plan samples (λ b. (serial plan (start b) e).slots)
spins_at plan samples (Uneven stand) e = all_spins plan samples (λ b. (all_ready plan (uneven_part plan.size b stand) e).slots)

-- the report of a run that was to go to epoch until and ended with its slots at these positions: the header and the end have the
-- least epoch that all slots had completed at its start and at its end; the rows are those between; the spins stand where they
-- are ordered and every slot is at rest at until
unfoldable pub stopped_text : Planned → Beginning → ℕ → List Position → List ℕ
stopped_text planned from until ends =
    header_line planned.plan planned.orders.samples (begins_at from) (floor_of ends)
    ++ rows_to planned.plan planned.orders.samples planned.orders.every from (floor_of ends)
    ++ end_line (floor_of ends)
    ++ (if planned.orders.spins && all_rest until ends then spins_at planned.plan planned.orders.samples from until else [])

-- its checkpoint: each slot as it is at its position, each pair's generators, and the records that are kept ahead
abbrev pub stopped_checkpoint : Planned → RaggedStand → List ℕ
stopped_checkpoint planned came =
    uneven_encoding planned.plan planned.orders.samples planned.orders.every (λ b. uneven_part planned.plan.size b came) came.pending

-- what holds of the text and the checkpoint of a run: of one to its last epoch both are known beforehand, and the states at
-- that epoch fit, so that a run which goes on from the checkpoint has them; of one that may stop they are those of a state that
-- it comes to
abbrev pub RunGives : Option ℕ → Planned → Beginning → ℕ → (List ℕ → List ℕ → Type 0) → Type 0
RunGives None planned from until P =
    AreBankStates planned.plan (λ b. state_at planned.plan from until b) × P (run_text planned from until) (run_checkpoint planned from until)
RunGives (Some takes) planned from until P =
    (came : RaggedStand) × ComesTo planned from until takes came × P (stopped_text planned from until (positions_of came)) (stopped_checkpoint planned came)
