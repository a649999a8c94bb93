-- The buffer that a run keeps for its checkpoint.
use Rattle.std.specs.Prelude.{◌≡◌, ℕ, ◌+◌, ◌*◌, ◌≤◌, List, [], ◌∷◌, length, All}
use Rattle.spin_model.specs.Limits.{every_take}
use Rattle.scalar_rule.specs.Plan.{Plan, slots_of}
use Rattle.plane_sweep.specs.Uneven.{level_stand}
use Rattle.plane_sweep.specs.declared.uneven.RaggedStand.{RaggedStand}
use Rattle.run_checkpoint.specs.BankEncoding.{banks_len}
use Rattle.run_checkpoint.specs.Encoding.{flattened}
use Rattle.run_checkpoint.specs.Lengths.{encoding_len, uneven_len}
use Rattle.glass_engine.specs.BankRuns.{plans_of}
use Rattle.glass_engine.specs.Runs.{RunView}
use Rattle.glass_engine.specs.Saves.{written}
use Rattle.glass_engine.specs.declared.run.SaveKind.{SaveKind}
use Rattle.glass_engine.specs.declared.run.SaveKind.TheVariants as saves
use Rattle.glass_engine.specs.declared.saving.Saving.{Saving}
use Rattle.glass_engine.specs.declared.saving.Saving.TheVariants as saving

abbrev pub kind_of : Saving → SaveKind
kind_of saving.Never = saves.Never
kind_of (saving.Level room) = saves.Level
kind_of (saving.Ragged room) = saves.Ragged

-- what was written
abbrev pub bytes_of : Saving → List ℕ
bytes_of saving.Never = []
bytes_of (saving.Level room) = room.bytes
bytes_of (saving.Ragged room) = room.bytes

-- how many bytes fit once it is empty
abbrev pub limit_of : Saving → ℕ
limit_of saving.Never = 0
limit_of (saving.Level room) = room.spare + length room.bytes
limit_of (saving.Ragged room) = room.spare + length room.bytes

-- the longest checkpoint of one bank, since no more records are kept ahead than there are samples, times the slots, times the
-- slots; and that of several
abbrev pub bank_need : Plan → ℕ → SaveKind → ℕ
bank_need plan samples saves.Never = 0
bank_need plan samples saves.Level = encoding_len plan.size (slots_of plan)
bank_need plan samples saves.Ragged = uneven_len plan.size (slots_of plan) (samples * slots_of plan * slots_of plan)

abbrev pub banks_need : List Plan → SaveKind → ℕ
banks_need plans saves.Never = 0
banks_need plans saves.Level = banks_len plans
banks_need plans saves.Ragged = 0

abbrev pub need_of : List RunView → SaveKind → ℕ
need_of [] = λ kind. 0
need_of (run ∷ []) = bank_need run.plan run.orders.samples
need_of (run ∷ next ∷ runs) = banks_need (plans_of (run ∷ next ∷ runs))

-- it is empty, and that fits
pub record HasRoom (need : SaveKind → ℕ) (kept : Saving) : Type 0 where
  pub long : need (kind_of kept) ≤ limit_of kept
  pub empty : bytes_of kept ≡ []

-- a state that is saved as one at one epoch has every slot at rest there
abbrev pub EndsAs : Saving → RaggedStand → Type 0
EndsAs saving.Never stand = Unit {0}
EndsAs (saving.Level room) stand = stand ≡ level_stand (flattened stand)
EndsAs (saving.Ragged room) stand = Unit {0}

-- the checkpoint of the state was written
abbrev pub IsWritten : Plan → ℕ → ℕ → RaggedStand → Saving → Type 0
IsWritten plan samples every stand kept = bytes_of kept ≡ written (kind_of kept) plan samples every stand

-- what a run keeps of its buffer; a checkpoint at one epoch is of a run that is not asked to stop, and one of slots at different
-- epochs of one bank
pub record KeepsSaving (runs : List RunView) (kept : Saving) : Type 0 where
  pub kind : All (λ (run : RunView). run.saves ≡ kind_of kept) runs
  pub room : HasRoom (need_of runs) kept
  pub whole : kind_of kept ≡ saves.Level → All (λ (run : RunView). run.takes ≡ every_take) runs
  pub alone : kind_of kept ≡ saves.Ragged → length runs ≡ 1
