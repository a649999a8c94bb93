-- A step of a request that reads the store: what it gives, or why the call ends there.
use Rattle.std.specs.Prelude.{◌≡◌, ◌≤◌, ℕ, List, Option, IfSome, Result, Ok, Err, IfOk, OnOk, IfErr}
use Rattle.glass_edges.specs.Causes.{Rose}
use Rattle.glass_edges.specs.declared.shelf.Fetched.{Fetched}
use Rattle.glass_edges.specs.declared.shelf.Fetched.TheVariants as answer
use Rattle.glass_main.specs.Outside.{Store}
use Rattle.glass_main.specs.Endings.{IsOfFile, TellsLength}
use Rattle.glass_main.specs.Statuses.{IsRefusedBy}
use Rattle.glass_main.specs.declared.role.Role.{Role}
use Rattle.glass_main.specs.declared.refusal.Refusal.{Refusal}
use Rattle.glass_main.specs.declared.refusal.Refusal.TheVariants.{Absent, TooLong}
use Rattle.glass_main.specs.declared.ending.Ending.{Ending}
use Rattle.glass_main.specs.declared.ending.Ending.TheVariants.{Done, Refused, Unread, Unwritten, Unsaved, NoMemory}

-- a step that fetches at most one file
abbrev pub Fetches : Role → Role → Type 0
Fetches fetched role = role ≡ fetched

-- what is made of a fetch's answer: the bytes, or the ending that tells of it; a length is told as it was answered
abbrev pub gathered : Role → Fetched → Result (List ℕ) Ending
gathered role (answer.Held v) = Ok v.items
gathered role answer.Absent = Err (Refused (Absent role))
gathered role (answer.TooLong n) = Err (Refused (TooLong role n))
gathered role answer.Failed = Err (Unread role)
gathered role answer.NoMemory = Err NoMemory

-- the ending of a step: what is asked for refuses it, for a file that the step fetches, or the store failed at a file that the step fetches, or there was not
-- enough memory; a fault is counted where the store failed and nowhere else; a length is told as it was answered
abbrev pub Stops : {A : Type 0} → Option (Result A Refusal) → (Role → Type 0) → Ending → Store → Store → Type 0
Stops asked fetches Done old new = ⊥
Stops asked fetches (Refused told) old new =
    (IsOfFile fetches told × IfSome asked (λ a. IsRefusedBy a told)) × (new.faults ≡ old.faults) × TellsLength old.holds old.lengths told
Stops asked fetches (Unread role) old new = fetches role × Rose old.faults new.faults
Stops asked fetches Unwritten old new = ⊥
Stops asked fetches Unsaved old new = ⊥
Stops asked fetches NoMemory old new = new.faults ≡ old.faults

-- the step gives what is asked for and counts no fault, or stops; no file changes, and no length that is told of one
pub record Gathers {A : Type 0} (asked : Option (Result A Refusal)) (fetches : Role → Type 0) (result : Result A Ending) (old new : Store) : Type 0 where
  pub found : IfOk result (λ x. IfSome asked (λ a. a ≡ Ok x))
  pub passed : OnOk result (new.faults ≡ old.faults)
  pub stopped : IfErr result (λ e. Stops asked fetches e old new)
  pub same : new.holds ≡ old.holds
  pub lengths : new.lengths ≡ old.lengths
  pub later : old.faults ≤ new.faults
