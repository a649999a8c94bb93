-- What a command starts with: the state whose encoding the bytes of the checkpoint are that it names, or where it names none the
-- opening states.
use Rattle.std.specs.Prelude.{◌≡◌, ℕ, List, Option, Some, None, IfSome, IfOk}
use Rattle.std.specs.FinMap as finmap
use Rattle.glass_edges.specs.Contents.{Files}
use Rattle.spin_model.specs.Limits.{last_epoch}
use Rattle.run_checkpoint.specs.Decoding.{IsEncoded}
use Rattle.command_words.specs.CommandLine.{Command, Plain, Check, Run, Average, Demo, Lines, Potts, Age, Measure, Cross}
use Rattle.glass_main.specs.Beginnings.{opened_by}
use Rattle.glass_main.specs.CrossRun.{seeded, AreStatesOf}
use Rattle.glass_main.specs.ManyBanks.{banks_opened_by}
use Rattle.glass_main.specs.MeasureRun.{IsLevelEncoding}
use Rattle.glass_main.specs.Request.{Work, PlainWork, CheckWork, RunWork, BanksWork, AverageWork, DemoWork, LinesWork, PottsWork, AgeWork, MeasureWork, CrossWork, request_for}
use Rattle.glass_main.specs.ResumeLaws.{IsEncodingOfBanks}
use Rattle.glass_main.specs.StopLaws.{IsEncodingOf}

-- the checkpoint that a command names, of two the first: a run may go on from one, also one that is measured, and `lines` and `cross` print
-- of them
abbrev pub named_checkpoint : Option Command → Option (List ℕ)
named_checkpoint None = None
named_checkpoint (Some (Plain order)) = None
named_checkpoint (Some (Check name)) = None
named_checkpoint (Some (Run order)) = order.from
named_checkpoint (Some (Average order)) = None
named_checkpoint (Some (Demo n)) = None
named_checkpoint (Some (Lines order)) = Some order.checkpoint
named_checkpoint (Some (Potts order)) = None
named_checkpoint (Some (Age order)) = None
named_checkpoint (Some (Measure order)) = order.from
named_checkpoint (Some (Cross order)) = Some order.first

-- where none is named a run starts with the opening states of its plans
abbrev pub StartsAnew : Work → Type 0
StartsAnew (PlainWork order) = Unit {0}
StartsAnew (CheckWork plans) = Unit {0}
StartsAnew (RunWork planned from until stop_after) = from ≡ opened_by planned
StartsAnew (BanksWork planned starts until) = starts ≡ banks_opened_by planned
StartsAnew (AverageWork averages) = Unit {0}
StartsAnew (DemoWork n) = Unit {0}
StartsAnew (LinesWork saved) = ⊥
StartsAnew (PottsWork order) = Unit {0}
StartsAnew (AgeWork planned wait times) = Unit {0}
StartsAnew (MeasureWork planned starts until) = starts ≡ banks_opened_by planned
StartsAnew (CrossWork crossed) = ⊥

-- the bytes of the named one are the encoding of what a run goes on from, or `lines` prints of, or of the first state of `cross`, which is
-- in time; no other work is asked for then
abbrev pub StartsWith : List ℕ → Work → Type 0
StartsWith bytes (PlainWork order) = ⊥
StartsWith bytes (CheckWork plans) = ⊥
StartsWith bytes (RunWork planned from until stop_after) = IsEncodingOf planned until bytes from
StartsWith bytes (BanksWork planned starts until) = IsEncodingOfBanks planned.plans until bytes starts
StartsWith bytes (AverageWork averages) = ⊥
StartsWith bytes (DemoWork n) = ⊥
StartsWith bytes (LinesWork saved) = IsEncoded saved.planned.plan last_epoch bytes saved.base
StartsWith bytes (PottsWork order) = ⊥
StartsWith bytes (AgeWork planned wait times) = ⊥
StartsWith bytes (MeasureWork planned starts until) = IsLevelEncoding planned.plans until bytes starts
StartsWith bytes (CrossWork crossed) = AreStatesOf crossed.planned.plans bytes crossed.first

-- one of the two, by the name; the files have bytes under it
abbrev pub StartsBy : Option (List ℕ) → Files → Work → Type 0
StartsBy None files work = StartsAnew work
StartsBy (Some name) files work = (bytes : List ℕ) × (finmap.get files name ≡ Some bytes) × StartsWith bytes work

-- what a command asks for, where the files are observable and nothing refuses it
abbrev pub Starts : Option Command → Option Files → Type 0
Starts command None = Unit {0}
Starts command (Some files) = IfSome (request_for command (Some files)) (λ asked. IfOk asked (StartsBy (named_checkpoint command) files))

-- ---- the second state

-- the second checkpoint that a command names
abbrev pub second_checkpoint : Option Command → Option (List ℕ)
second_checkpoint None = None
second_checkpoint (Some (Plain order)) = None
second_checkpoint (Some (Check name)) = None
second_checkpoint (Some (Run order)) = None
second_checkpoint (Some (Average order)) = None
second_checkpoint (Some (Demo n)) = None
second_checkpoint (Some (Lines order)) = None
second_checkpoint (Some (Potts order)) = None
second_checkpoint (Some (Age order)) = None
second_checkpoint (Some (Measure order)) = None
second_checkpoint (Some (Cross order)) = Some order.second

-- its bytes are the encoding of the second state, under the plans with its seed; no other work has one
abbrev pub IsSecond : List ℕ → Work → Type 0
IsSecond bytes (PlainWork order) = ⊥
IsSecond bytes (CheckWork plans) = ⊥
IsSecond bytes (RunWork planned from until stop_after) = ⊥
IsSecond bytes (BanksWork planned starts until) = ⊥
IsSecond bytes (AverageWork averages) = ⊥
IsSecond bytes (DemoWork n) = ⊥
IsSecond bytes (LinesWork saved) = ⊥
IsSecond bytes (PottsWork order) = ⊥
IsSecond bytes (AgeWork planned wait times) = ⊥
IsSecond bytes (MeasureWork planned starts until) = ⊥
IsSecond bytes (CrossWork crossed) = AreStatesOf (seeded crossed.seed crossed.planned.plans) bytes crossed.second

-- where one is named, the files have bytes under it
abbrev pub SecondBy : Option (List ℕ) → Files → Work → Type 0
SecondBy None files work = Unit {0}
SecondBy (Some name) files work = (bytes : List ℕ) × (finmap.get files name ≡ Some bytes) × IsSecond bytes work

abbrev pub Seconds : Option Command → Option Files → Type 0
Seconds command None = Unit {0}
Seconds command (Some files) = IfSome (request_for command (Some files)) (λ asked. IfOk asked (SecondBy (second_checkpoint command) files))
