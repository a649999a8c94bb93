-- How a call ends: its status, what causes it, and what it leaves.
use Rattle.std.specs.Prelude.{◌≡◌, ◌⊎◌, ℕ, ◌<◌, ◌≤◌, List, Option, IfSome, Result, Ok, Err, Some, None}
use Rattle.glass_edges.specs.Causes.{Rose}
use Rattle.glass_edges.specs.Contents.{appended, AppendsPrefix, Placed, SameElsewhere}
use Rattle.command_words.specs.CommandLine.{Command, saved_name}
use Rattle.glass_main.specs.Endings.{Reads, TellsLength}
use Rattle.glass_main.specs.Outside.{Output, Store}
use Rattle.glass_main.specs.Request.{Work, limit_of, IsAccepted, Gives, GivesAsked, request_for}
use Rattle.glass_main.specs.Lines.{line_of}
use Rattle.glass_main.specs.declared.role.Role.{Role}
use Rattle.glass_main.specs.declared.role.Role.TheVariants.{RunFile, RuleTable, SwapTable, Couplings as CouplingsFile, Checkpoint as CheckpointFile, Report as ReportFile, SecondCheckpoint as SecondFile}
use Rattle.glass_main.specs.declared.refusal.Refusal.{Refusal}
use Rattle.glass_main.specs.declared.refusal.Refusal.TheVariants.{Words, Absent, TooLong, Plan, Rules, Swaps, Couplings, Checkpoint, Report, SecondCheckpoint}
use Rattle.glass_main.specs.declared.ending.Ending.{Ending}
use Rattle.glass_main.specs.declared.ending.Ending.TheVariants.{Done, Refused, Unread, Unwritten, Unsaved, NoMemory}

-- ---- the exit status

-- of a file that is too long, by what it is read as
abbrev pub role_status : Role → ℕ
role_status RunFile = 3
role_status RuleTable = 4
role_status SwapTable = 4
role_status CouplingsFile = 5
role_status CheckpointFile = 6
role_status ReportFile = 12
role_status SecondFile = 6

-- of a refusal
abbrev pub refusal_status : Refusal → ℕ
refusal_status Words = 2
refusal_status (Absent role) = 7
refusal_status (TooLong role n) = role_status role
refusal_status (Plan refused) = 3
refusal_status (Rules refused) = 4
refusal_status (Swaps refused) = 4
refusal_status (Couplings refused) = 5
refusal_status (Checkpoint refused) = 6
refusal_status (Report refused) = 12
refusal_status (SecondCheckpoint refused) = 6

-- of an ending
abbrev pub status_of : Ending → ℕ
status_of Done = 0
status_of (Refused refusal) = refusal_status refusal
status_of (Unread role) = 8
status_of Unwritten = 9
status_of Unsaved = 10
status_of NoMemory = 11

-- ---- the cause

-- the refusal that is told is the one that is due; of a file that is too long a length is told that the file has and that
-- is above the limit
abbrev pub IsTold : Refusal → Refusal → Type 0
IsTold Words told = told ≡ Words
IsTold (Absent role) told = told ≡ Absent role
IsTold (TooLong role m) told = (n : ℕ) × (told ≡ TooLong role n) × (limit_of role < n) × (n ≤ m)
IsTold (Plan refused) told = told ≡ Plan refused
IsTold (Rules refused) told = told ≡ Rules refused
IsTold (Swaps refused) told = told ≡ Swaps refused
IsTold (Couplings refused) told = told ≡ Couplings refused
IsTold (Checkpoint refused) told = told ≡ Checkpoint refused
IsTold (Report refused) told = told ≡ Report refused
IsTold (SecondCheckpoint refused) told = told ≡ SecondCheckpoint refused

-- what is asked for is refused, and this is told
abbrev pub IsRefusedBy : {A : Type 0} → Result A Refusal → Refusal → Type 0
IsRefusedBy (Ok work) told = ⊥
IsRefusedBy (Err due) told = IsTold due told

-- the ending fits what is asked for
abbrev pub Fits : Result Work Refusal → Ending → Type 0
Fits asked Done = IsAccepted asked
Fits asked (Refused told) = IsRefusedBy asked told
Fits asked (Unread role) = Unit {0}
Fits asked Unwritten = IsAccepted asked
Fits asked Unsaved = IsAccepted asked
Fits asked NoMemory = Unit {0}

-- the output: a fault is counted where it failed, and with no other ending; nothing was put where nothing was to be
abbrev pub Printed : Ending → Output → Output → Type 0
Printed Done old new = new.faults ≡ old.faults
Printed (Refused told) old new = new ≡ old
Printed (Unread role) old new = new ≡ old
Printed Unwritten old new = Rose old.faults new.faults
Printed Unsaved old new = new.faults ≡ old.faults
Printed NoMemory old new = new ≡ old

-- the files after all is done: as before where no checkpoint is asked for; else, where they are observable, the name has
-- exactly the checkpoint, and all else is as before
abbrev pub Saved : Option (List ℕ) → List ℕ → Store → Store → Type 0
Saved None bytes old new = new.holds ≡ old.holds
Saved (Some name) bytes old new = Placed old.holds new.holds name bytes

-- the files are as before where no checkpoint is asked for
abbrev pub Unsought : Option (List ℕ) → Store → Store → Type 0
Unsought None old new = new.holds ≡ old.holds
Unsought (Some name) old new = Unit {0}

-- the files after a place that failed: that name may hold anything
abbrev pub Unplaced : Option (List ℕ) → Store → Store → Type 0
Unplaced None old new = new.holds ≡ old.holds
Unplaced (Some name) old new = SameElsewhere old.holds new.holds name

-- what became of the store: its files are as before but for the checkpoint, and a fault was counted where a file could not be
-- read or the checkpoint not be placed, and with no other ending
abbrev pub Kept : Option (List ℕ) → Ending → Store → Store → Type 0
Kept name Done old new = Unsought name old new × (new.faults ≡ old.faults)
Kept name (Refused told) old new = (new.holds ≡ old.holds) × (new.faults ≡ old.faults)
Kept name (Unread role) old new = (new.holds ≡ old.holds) × Rose old.faults new.faults
Kept name Unwritten old new = (new.holds ≡ old.holds) × (new.faults ≡ old.faults)
Kept name Unsaved old new = Unplaced name old new × Rose old.faults new.faults
Kept name NoMemory old new = (new.holds ≡ old.holds) × (new.faults ≡ old.faults)

-- the whole text is on the output, and the checkpoint is saved where a name is given for it
abbrev pub IsGiven : Option (List ℕ) → Store → Store → Output → Output → List ℕ → List ℕ → Type 0
IsGiven name held holds before now text bytes = (now.taken ≡ appended before.taken text) × Saved name bytes held holds

-- what was written, by what is asked for: all of it; a prefix of the text; the whole text, where the checkpoint failed
abbrev pub Wrote : Option (List ℕ) → Option (Result Work Refusal) → Ending → Store → Store → Output → Output → Type 0
Wrote name asked Done held holds before now = IfSome asked (λ a. GivesAsked a (IsGiven name held holds before now))
Wrote name asked (Refused told) held holds before now = Unit {0}
Wrote name asked (Unread role) held holds before now = Unit {0}
Wrote name asked Unwritten held holds before now = IfSome asked (λ a. GivesAsked a (λ text bytes. AppendsPrefix before.taken now.taken text))
Wrote name asked Unsaved held holds before now = IfSome asked (λ a. GivesAsked a (λ text bytes. now.taken ≡ appended before.taken text))
Wrote name asked NoMemory held holds before now = Unit {0}

-- what holds of a refusal that is told
abbrev pub IfRefused : Ending → (Refusal → Type 0) → Type 0
IfRefused (Refused told) P = P told
IfRefused ending P = Unit {0}

-- an ending, its cause and what it leaves; a length is told as a fetch of the file answers it
pub record Ends (command : Option Command) (ending : Ending) (held holds : Store) (before now : Output) : Type 0 where
  pub words : Reads command held.holds ending
  pub cause : IfSome (request_for command held.holds) (λ asked. Fits asked ending)
  pub out : Printed ending before now
  pub files : Kept (saved_name command) ending held holds
  pub wrote : Wrote (saved_name command) (request_for command held.holds) ending held holds before now
  pub length : IfRefused ending (TellsLength held.holds held.lengths)
  pub later : (held.faults ≤ holds.faults) × (before.faults ≤ now.faults)

-- ---- the error output

-- the error output got the line and counted no fault, or got a prefix of it and then a fault
unfoldable pub Says : List ℕ → Output → Output → Type 0
Says line old new =
    ((new.taken ≡ appended old.taken line) × (new.faults ≡ old.faults))
    ⊎ (Rose old.faults new.faults × AppendsPrefix old.taken new.taken line)

-- what the error output got: nothing where all is done, else the line of the ending
abbrev pub Told : Ending → Output → Output → Type 0
Told Done old new = new ≡ old
Told (Refused told) old new = Says (line_of (Refused told)) old new
Told (Unread role) old new = Says (line_of (Unread role)) old new
Told Unwritten old new = Says (line_of Unwritten) old new
Told Unsaved old new = Says (line_of Unsaved) old new
Told NoMemory old new = Says (line_of NoMemory) old new

-- ---- the call

-- the status of a call with its cause and what it leaves
pub record Answers (command : Option Command) (status : ℕ) (held holds : Store) (before now err_before err_now : Output) : Type 0 where
  pub ending : Ending
  pub number : status ≡ status_of ending
  pub ends : Ends command ending held holds before now
  pub err : Told ending err_before err_now

-- all of the work is done: the output got its text, the error output nothing, the files are as before but for the checkpoint
-- that is to be saved, and no fault was counted
pub record DoesWork (name : Option (List ℕ)) (work : Work) (held holds : Store) (before now err_before err_now : Output) : Type 0 where
  pub given : Gives work (IsGiven name held holds before now)
  pub err : err_now ≡ err_before
  pub passed : (now.faults ≡ before.faults) × (holds.faults ≡ held.faults)

-- each fault is told by the status: one of the store by 8 or 10, one of the output by 9, and with 0 the error output counted none
pub record TellsFaults (status : ℕ) (held holds : Store) (before now err_before err_now : Output) : Type 0 where
  pub store : ¬ (status ≡ 8) → ¬ (status ≡ 10) → holds.faults ≡ held.faults
  pub out : ¬ (status ≡ 9) → now.faults ≡ before.faults
  pub err : status ≡ 0 → err_now.faults ≡ err_before.faults

-- what is asked for is work, and it is done
abbrev pub Does : Option (List ℕ) → Result Work Refusal → Store → Store → Output → Output → Output → Output → Type 0
Does name (Err refusal) held holds before now err_before err_now = ⊥
Does name (Ok work) held holds before now err_before err_now = DoesWork name work held holds before now err_before err_now

-- where the store did not fail a refusal is told, and where the output did not either the work is done, but for want of
-- memory
abbrev pub Completes : Result Work Refusal → ℕ → Store → Store → Output → Output → Type 0
Completes (Err refusal) status held holds before now =
    ¬ (Rose held.faults holds.faults) → (status ≡ refusal_status refusal) ⊎ (status ≡ 11)
Completes (Ok work) status held holds before now =
    ¬ (Rose held.faults holds.faults) → ¬ (Rose before.faults now.faults) → (status ≡ 0) ⊎ (status ≡ 11)
