-- What a run starts from: the opening states of its samples, or those of a checkpoint; and what it then prints and saves.
use Rattle.std.specs.Prelude.{◌≡◌, ℕ, false, if◌then◌else◌, List, replicate, Result}
use Rattle.glass_edges.specs.Refusals.{unless}
use Rattle.scalar_rule.specs.Opening.{opening}
use Rattle.scalar_rule.specs.Plan.{Plan, slots_of}
use Rattle.scalar_rule.specs.Positions.{floor_of}
use Rattle.scalar_rule.specs.Ragged.{Position, all_ready}
use Rattle.scalar_rule.specs.Serial.{serial}
use Rattle.scalar_rule.specs.declared.sample.Sample.{Sample}
use Rattle.plane_sweep.specs.Packed.{part, StandFits, StandsFor}
use Rattle.plane_sweep.specs.Uneven.{positions_of, uneven_part, level_stand}
use Rattle.plane_sweep.specs.declared.stand.Stand.{Stand}
use Rattle.plane_sweep.specs.declared.uneven.RaggedStand.{RaggedStand}
use Rattle.run_checkpoint.specs.Encoding.{encoding}
use Rattle.run_checkpoint.specs.Reading.{stand_in}
use Rattle.run_checkpoint.specs.UnevenDecoding.{is_uneven, uneven_in, any_refusal}
use Rattle.run_checkpoint.specs.declared.refused.CheckpointRefused.{CheckpointRefused}
use Rattle.glass_engine.specs.Report.{report, uneven_report}
use Rattle.glass_main.specs.declared.planned.Planned.{Planned}

-- the states of 64 samples at one epoch; or a packed state whose slots may be at different epochs, with the records that it
-- keeps ahead
pub data Beginning : Type 0 where
  Level : (ℕ → Sample) → Beginning
  Uneven : RaggedStand → Beginning

-- the opening states of a run file
abbrev pub opened_by : Planned → Beginning
opened_by planned = Level (opening planned.plan planned.orders.start 0)

-- what the bytes of a checkpoint of either kind are, or their first refusal
abbrev pub states_in : Plan → List ℕ → Beginning
states_in plan bytes = if is_uneven bytes then Uneven (uneven_in plan bytes) else Level (λ b. part plan.size b (stand_in plan bytes))

unfoldable pub resumed_by : Planned → ℕ → List ℕ → Result Beginning CheckpointRefused
resumed_by planned until bytes =
    unless (any_refusal planned.plan planned.orders.samples planned.orders.every until bytes) (states_in planned.plan bytes)

-- the least epoch that all slots have completed
abbrev pub begins_at : Beginning → ℕ
begins_at (Level start) = (start 0).epoch
begins_at (Uneven stand) = floor_of (positions_of stand)

-- ---- what a run to an epoch prints, and saves

-- every slot at rest at an epoch
abbrev pub all_at : Plan → ℕ → List Position
all_at plan e = replicate (slots_of plan) (record { epoch = e; waits = false })

-- from states at one epoch, the report of the serial dynamics, sample by sample
abbrev pub run_text : Planned → Beginning → ℕ → List ℕ
run_text planned (Level start) until = report planned.plan start planned.orders until
run_text planned (Uneven stand) until =
    uneven_report planned.plan (λ b. uneven_part planned.plan.size b stand) stand.pending planned.orders.samples planned.orders.every
    planned.orders.spins until (all_at planned.plan until)

-- the state of sample b with every slot at rest at an epoch: from states at one epoch by the serial dynamics
abbrev pub state_at : Plan → Beginning → ℕ → ℕ → Sample
state_at plan (Level start) e b = serial plan (start b) e
state_at plan (Uneven stand) e b = all_ready plan (uneven_part plan.size b stand) e

-- the checkpoint of these states at the last epoch
abbrev pub run_checkpoint : Planned → Beginning → ℕ → List ℕ
run_checkpoint planned from until = encoding planned.plan (λ b. state_at planned.plan from until b)

-- ---- what the code starts from

-- a packed state at one epoch that stands for the states
pub record IsLevelBase (plan : Plan) (start : ℕ → Sample) (base : RaggedStand) : Type 0 where
  pub stand : Stand
  pub is : base ≡ level_stand stand
  pub fits : StandFits plan stand
  pub stands : StandsFor plan start stand

abbrev pub IsBaseOf : Plan → Beginning → RaggedStand → Type 0
IsBaseOf plan (Level start) base = IsLevelBase plan start base
IsBaseOf plan (Uneven stand) base = base ≡ stand
