-- What a run shares with the sums over it: its checkpoint, and that workers and pieces change nothing.
use Rattle.std.specs.Prelude.{◌≡◌, ◌≤◌, ℕ, List, [], ◌∷◌, length, Option}
use Rattle.glass_edges.specs.Contents.{Files}
use Rattle.command_words.specs.CommandLine.{Measure}
use Rattle.command_words.specs.MeasureWords.{MeasureOrder, run_to_measure}
use Rattle.scalar_rule.specs.declared.sample.Sample.{Sample}
use Rattle.glass_main.specs.Beginnings.{Level, run_checkpoint}
use Rattle.glass_main.specs.ManyBanks.{PlannedBanks, banks_bytes}
use Rattle.glass_main.specs.MeasureRun.{banks_of, measured_bytes}
use Rattle.glass_main.specs.Request.{request_of}
use Rattle.glass_main.specs.declared.planned.Planned.{Planned}
use Rattle.glass_main.specs.declared.plans.Plans.TheVariants.{One}
use Rattle.run_laws.specs.PackingLaws.{ArePackedAlone}

-- the checkpoint is that of the run from the same states, of one bank and of several; and two that differ at most in their workers
-- and in the pieces that planes are cut into ask for the same over the same files
pub record SumsSaveAsRuns : Type 0 where
  pub one : (planned : Planned) (start : ℕ → Sample) (until : ℕ) → measured_bytes (banks_of (One planned)) (start ∷ []) until ≡ run_checkpoint planned (Level start) until
  pub banks : (planned : PlannedBanks) (starts : List (ℕ → Sample)) (until : ℕ) → 2 ≤ length planned.plans → measured_bytes planned starts until ≡ banks_bytes planned starts until
  pub asked : (one other : MeasureOrder) (files : Option Files) → ArePackedAlone (run_to_measure one) (run_to_measure other) → request_of (Measure one) files ≡ request_of (Measure other) files
