-- What the packing of a run's work and the order of its rows don't change: the text and the checkpoint.
use Rattle.std.specs.Prelude.{◌≡◌, ℕ, List, Option, Some, None}
use Rattle.glass_edges.specs.Contents.{Files}
use Rattle.command_words.specs.RunWords.{RunOrder}
use Rattle.command_words.specs.CommandLine.{Run, saved_name}
use Rattle.scalar_rule.specs.declared.sample.Sample.{Sample}
use Rattle.glass_main.specs.Beginnings.{Beginning, run_checkpoint}
use Rattle.glass_main.specs.ManyBanks.{PlannedBanks, banks_bytes}
use Rattle.glass_main.specs.Request.{Work, Gives, RunWork, BanksWork, request_of}
use Rattle.glass_main.specs.declared.planned.Planned.{Planned}

-- two runs that differ at most in their workers and in the pieces that planes are cut into
pub record ArePackedAlone (one other : RunOrder) : Type 0 where
  pub run : one.run ≡ other.run
  pub until : one.until ≡ other.until
  pub from : one.from ≡ other.from
  pub save : one.save ≡ other.save
  pub stop_after : one.stop_after ≡ other.stop_after

-- work has one text and one checkpoint: whatever holds of one text and checkpoint that it gives holds of every other
abbrev pub HasOneResult : Work → Type 0
HasOneResult work = (text bytes other_text other_bytes : List ℕ) → Gives work (λ t c. (t ≡ text) × (c ≡ bytes))
    → Gives work (λ t c. (t ≡ other_text) × (c ≡ other_bytes)) → (text ≡ other_text) × (bytes ≡ other_bytes)

-- such runs ask for the same over the same files, and save it under the same name; and the work of a run that goes to its last
-- epoch has one text and one checkpoint
pub record PackingChangesNothing : Type 0 where
  pub asked : (one other : RunOrder) (files : Option Files) → ArePackedAlone one other → request_of (Run one) files ≡ request_of (Run other) files
  pub saved : (one other : RunOrder) → ArePackedAlone one other → saved_name (Some (Run one)) ≡ saved_name (Some (Run other))
  pub runs : (planned : Planned) (from : Beginning) (until : ℕ) → HasOneResult (RunWork planned from until None)
  pub banks : (planned : PlannedBanks) (starts : List (ℕ → Sample)) (until : ℕ) → HasOneResult (BanksWork planned starts until)

-- the checkpoint of a run to its last epoch is that of its plans and of what it begins with: how many samples are printed, at
-- which epochs and whether spins are makes no difference
pub record OrdersDontReachCheckpoints : Type 0 where
  pub runs : (one other : Planned) (from : Beginning) (until : ℕ) → one.plan ≡ other.plan → run_checkpoint one from until ≡ run_checkpoint other from until
  pub banks : (one other : PlannedBanks) (starts : List (ℕ → Sample)) (until : ℕ) → one.plans ≡ other.plans → banks_bytes one starts until ≡ banks_bytes other starts until
