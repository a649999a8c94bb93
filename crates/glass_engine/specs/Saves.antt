-- What a run places as its checkpoint.
use Rattle.std.specs.Prelude.{◌≡◌, ℕ, List, [], ◌∷◌}
use Rattle.spin_model.specs.Limits.{every_take}
use Rattle.scalar_rule.specs.Plan.{Plan}
use Rattle.scalar_rule.specs.Serial.{serial}
use Rattle.scalar_rule.specs.Ragged.{all_ready}
use Rattle.scalar_rule.specs.declared.sample.Sample.{Sample}
use Rattle.plane_sweep.specs.Packed.{part, StandFits, StandsFor}
use Rattle.plane_sweep.specs.Uneven.{uneven_part, level_stand}
use Rattle.plane_sweep.specs.declared.stand.Stand.{Stand}
use Rattle.plane_sweep.specs.declared.uneven.RaggedStand.{RaggedStand}
use Rattle.exchange_board.specs.Views.{RaggedEndedView}
use Rattle.run_checkpoint.specs.Encoding.{encoding, flattened, uneven_encoding}
use Rattle.glass_engine.specs.BankRuns.{runs_of, runs_checkpoint}
use Rattle.glass_engine.specs.Runs.{RunView, DoneView, starts, IsEnd}
use Rattle.glass_engine.specs.declared.run.SaveKind.{SaveKind}
use Rattle.glass_engine.specs.declared.run.SaveKind.TheVariants as saves

-- the checkpoint of a state that a run came to, by what is to be saved: of the states at one epoch; or of each slot at its
-- own, and of the records that are kept ahead
abbrev pub written : SaveKind → Plan → ℕ → ℕ → RaggedStand → List ℕ
written saves.Never plan samples every stand = []
written saves.Level plan samples every stand = encoding plan (λ b. part plan.size b (flattened stand))
written saves.Ragged plan samples every stand = uneven_encoding plan samples every (λ b. uneven_part plan.size b stand) stand.pending

-- that of a run that ended so
abbrev pub checkpoint : RunView → RaggedStand → List ℕ
checkpoint run stand = written run.saves run.plan run.orders.samples run.orders.every stand

-- of a run of one bank or of several
abbrev pub end_checkpoint : List DoneView → List ℕ
end_checkpoint [] = []
end_checkpoint (d ∷ []) = checkpoint d.run d.ended.stand
end_checkpoint (d ∷ next ∷ ds) = runs_checkpoint (runs_of (d ∷ next ∷ ds))

-- ---- laws

-- the checkpoint of a run to its end is that of the rule's states at its last epoch
abbrev pub WholeCheckpointIsTheRules : Type 0
WholeCheckpointIsTheRules = (run : RunView) (d : RaggedEndedView) → run.saves ≡ saves.Level → run.takes ≡ every_take → IsEnd run d
    → checkpoint run d.stand ≡ encoding run.plan (λ b. all_ready run.plan (starts run b) run.until)

-- from states at one epoch it is that of the serial dynamics
abbrev pub LevelCheckpointIsSerial : Type 0
LevelCheckpointIsSerial = (run : RunView) (stand : Stand) (start : ℕ → Sample) (d : RaggedEndedView) → run.saves ≡ saves.Level → run.takes ≡ every_take
    → run.base ≡ level_stand stand → StandFits run.plan stand → StandsFor run.plan start stand → IsEnd run d
    → checkpoint run d.stand ≡ encoding run.plan (λ b. serial run.plan (start b) run.until)
