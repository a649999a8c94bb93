-- What holds of runs: one that was not asked to stop ends with every slot at until, and from a level starting state its end
-- is that of the serial dynamics.
use Rattle.std.specs.Prelude.{◌≡◌, ℕ, [], ◌∷◌}
use Rattle.spin_model.specs.Limits.{every_take}
use Rattle.scalar_rule.specs.Positions.{uneven_records}
use Rattle.scalar_rule.specs.Records.{records_until}
use Rattle.scalar_rule.specs.Serial.{serial}
use Rattle.scalar_rule.specs.declared.sample.Sample.{Sample}
use Rattle.plane_sweep.specs.Packed.{part, StandFits, StandsFor}
use Rattle.plane_sweep.specs.Uneven.{level_stand}
use Rattle.plane_sweep.specs.declared.stand.Stand.{Stand}
use Rattle.plane_sweep.specs.declared.uneven.RaggedStand.{RaggedStand}
use Rattle.exchange_board.specs.Answers.{stages_of}
use Rattle.exchange_board.specs.Machine.{AllEnded}
use Rattle.scalar_rule.specs.Ragged.{all_ready}
use Rattle.exchange_board.specs.Views.{RaggedEndedView}
use Rattle.glass_engine.specs.BankRuns.{run_report}
use Rattle.glass_engine.specs.Runs.{RunView, starts, IsEnd}
use Rattle.glass_engine.specs.Report.{report}

-- the packed state at an epoch, where every slot is at rest there
abbrev pub stand_at : ℕ → RaggedStand → Stand
stand_at e ragged = record { epoch = e; slots = ragged.slots; pairs = ragged.pairs }

-- every slot at rest at until, in the state that the rule gives there, and all records
pub record IsWhole (run : RunView) (d : RaggedEndedView) : Type 0 where
  pub places : AllEnded run.until (stages_of d.stand)
  pub stand : StandsFor run.plan (λ b. all_ready run.plan (starts run b) run.until) (stand_at run.until d.stand)
  pub records : d.records ≡ uneven_records run.plan (starts run) run.base.pending run.orders.samples run.orders.every run.until

-- no run makes more hand-outs than every_take
abbrev pub UnstoppedRunIsWhole : Type 0
UnstoppedRunIsWhole = (run : RunView) (d : RaggedEndedView) → run.takes ≡ every_take → IsEnd run d → IsWhole run d

-- the same by the serial dynamics, from states of the samples at one epoch
pub record IsSerial (run : RunView) (start : ℕ → Sample) (d : RaggedEndedView) : Type 0 where
  pub places : AllEnded run.until (stages_of d.stand)
  pub stand : StandsFor run.plan (λ b. serial run.plan (start b) run.until) (stand_at run.until d.stand)
  pub records : d.records ≡ records_until run.plan start run.orders.samples run.orders.every run.until

abbrev pub LevelRunIsSerial : Type 0
LevelRunIsSerial = (run : RunView) (stand : Stand) (d : RaggedEndedView) → run.takes ≡ every_take → run.base ≡ level_stand stand
    → StandFits run.plan stand → IsEnd run d → IsSerial run (λ b. part run.plan.size b stand) d

-- and its report is that of the states that the starting state stands for
abbrev pub LevelReportIsSerial : Type 0
LevelReportIsSerial = (run : RunView) (stand : Stand) (start : ℕ → Sample) (d : RaggedEndedView) → run.takes ≡ every_take → run.base ≡ level_stand stand
    → StandFits run.plan stand → StandsFor run.plan start stand → IsEnd run d
    → run_report (record { run = run; ended = d } ∷ []) ≡ report run.plan start run.orders run.until
