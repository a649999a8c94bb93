-- What a save of bytes under a name does, by steps of which each may be the last.
use Rattle.std.specs.Prelude.{◌≡◌, ◌⊎◌, ℕ, ◌+◌, ◌<◌, true, List, [], ◌∷◌, ◌++◌, length, take, slice_index, codes, Option, Some, Result, OnOk, OnErr, IfSome}
use Rattle.glass_edges.specs.FolderSteps.{Thing, Names, Step, Past, after_all, AtEach, EachStep, present, with_steps}
use Rattle.glass_edges.specs.FolderSteps.Thing.{nothing, regular, other}
use Rattle.glass_edges.specs.FolderSteps.Step.{looks, empties, makes, writes, flushes, renames, removes, fails}

-- ---- names

-- the bytes that the path of a file may have
abbrev pub path_room : ℕ
path_room = 4096

-- a path, split behind its last slash
pub record IsSplitPath (path folder own : List ℕ) : Type 0 where
  pub parts : path ≡ folder ++ own
  pub ended : (folder ≡ []) ⊎ ((up : List ℕ) × (folder ≡ up ++ codes "/"))
  pub single : (i : ℕ) → i < length own → ¬ (slice_index own i ≡ 47)

-- the name of a new file: in the folder of the name, its own name or a front of it, with a dot before and .new behind
pub record IsFresh (name fresh : List ℕ) : Type 0 where
  pub folder : List ℕ
  pub own : List ℕ
  pub split : IsSplitPath name folder own
  pub count : ℕ
  pub made : fresh ≡ folder ++ codes "." ++ take count own ++ codes ".new"
  pub another : ¬ (fresh ≡ name)

-- ---- saves

-- a new file of exactly these bytes, all of them on the disk
abbrev pub saved : List ℕ → Thing
saved bytes = regular (record { bytes = bytes; flushed = true; writable = true })

-- what a new file may replace: nothing, or a regular file that may be written
abbrev pub MayBeReplaced : Thing → Type 0
MayBeReplaced nothing = Unit {0}
MayBeReplaced (regular file) = file.writable ≡ true
MayBeReplaced other = ⊥

-- the name has what it had, or exactly the new bytes; and every other name but the fresh one has what it had
pub record OldOrNew (name fresh bytes : List ℕ) (before now : Names) : Type 0 where
  pub whole : (now name ≡ before name) ⊎ (MayBeReplaced (before name) × (now name ≡ saved bytes))
  pub others : (any : List ℕ) → ¬ (any ≡ name) → ¬ (any ≡ fresh) → now any ≡ before any

-- the bytes of all writes, in their order
abbrev pub bytes_written : List Step → List ℕ
bytes_written [] = []
bytes_written (writes name piece ∷ steps) = piece ++ bytes_written steps
bytes_written (step ∷ steps) = bytes_written steps

-- the step opens what has this name or writes to it: it neither makes a file nor renames or removes one
abbrev pub WritesTo : List ℕ → Step → Type 0
WritesTo name (empties of) = of ≡ name
WritesTo name (writes of piece) = of ≡ name
WritesTo name (fails step) = Unit {0}
WritesTo name step = ⊥

-- after a save that ended well: what is no regular file was written as it stood, and else the name has the new file
abbrev pub IsSaved : List ℕ → List ℕ → List Step → Thing → Thing → Type 0
IsSaved name bytes steps other now = EachStep (WritesTo name) steps × (bytes_written steps ≡ bytes)
IsSaved name bytes steps thing now = now ≡ saved bytes

-- after one that failed: the fresh name has nothing, or what it had, or the last thing that the system answered is an
-- error to its removal
abbrev pub LeavesNone : List ℕ → Names → List Step → Type 0
LeavesNone fresh before steps =
    (after_all steps before fresh ≡ nothing)
    ⊎ ((after_all steps before fresh ≡ before fresh)
    ⊎ ((front : List Step) × (steps ≡ front ++ fails (removes fresh) ∷ [])))

-- the system answered an error to one of the steps
abbrev pub HasFailed : List Step → Type 0
HasFailed [] = ⊥
HasFailed (fails step ∷ steps) = Unit {0}
HasFailed (step ∷ steps) = HasFailed steps

pub record PlacesWhole {T E : Type 0} (name bytes : List ℕ) (result : Result T E) (before : Names) (steps : List Step) : Type 0 where
  -- the name of a new file, which isn't the name, unless none is made
  pub fresh : List ℕ
  pub beside : IsFresh name fresh ⊎ EachStep (WritesTo name) steps
  -- whichever step is the last
  pub each : AtEach (OldOrNew name fresh bytes before) before steps
  pub passed : OnOk result (IsSaved name bytes steps (before name) (after_all steps before name))
  pub failed : OnErr result (LeavesNone fresh before steps)
  -- an error has a cause: the system answered one, or the path of the new file would be too long
  pub cause : OnErr result (HasFailed steps ⊎ (path_room < length name + 5))

-- where the steps are observable: those that were done since have the property
abbrev pub BySteps : (Names → List Step → Type 0) → Option Past → Option Past → Type 0
BySteps P before now = IfSome before (λ past. (steps : List Step) × (now ≡ Some (with_steps steps past)) × P (present past) steps)

-- ---- parts of a save

-- the step is a write to the file of this name
abbrev pub IsWrite : List ℕ → Step → Type 0
IsWrite name (writes of piece) = of ≡ name
IsWrite name (fails step) = Unit {0}
IsWrite name step = ⊥

-- all of the bytes are written to a file, and nothing else is done
pub record WritesAll {T E : Type 0} (name bytes : List ℕ) (result : Result T E) (before : Names) (steps : List Step) : Type 0 where
  pub only : EachStep (IsWrite name) steps
  pub whole : OnOk result (bytes_written steps ≡ bytes)
  pub cause : OnErr result (HasFailed steps)

-- the step changes no name but this one
abbrev pub IsAside : List ℕ → Step → Type 0
IsAside name (looks of) = Unit {0}
IsAside name (empties of) = of ≡ name
IsAside name (makes of) = of ≡ name
IsAside name (writes of piece) = of ≡ name
IsAside name (flushes of) = of ≡ name
IsAside name (renames from to) = ⊥
IsAside name (removes of) = of ≡ name
IsAside name (fails step) = Unit {0}

-- a new file is made and written, and its bytes are brought to the disk
pub record MakesNew {T E : Type 0} (fresh bytes : List ℕ) (result : Result T E) (before : Names) (steps : List Step) : Type 0 where
  pub aside : EachStep (IsAside fresh) steps
  pub made : OnOk result (after_all steps before fresh ≡ saved bytes)
  pub cause : OnErr result (HasFailed steps)

-- and takes the name. Where the names have kept what they had first, or the name the new bytes, they keep it so
pub record Replaces {T E : Type 0} (name fresh bytes : List ℕ) (result : Result T E) (before : Names) (steps : List Step) : Type 0 where
  pub each : (first : Names) → MayBeReplaced (first name) → OldOrNew name fresh bytes first before → AtEach (OldOrNew name fresh bytes first) before steps
  pub passed : OnOk result (after_all steps before name ≡ saved bytes)
  pub cause : OnErr result (HasFailed steps)

-- a save of what may be replaced
abbrev pub PlacesNew : {T E : Type 0} → List ℕ → List ℕ → Result T E → Names → List Step → Type 0
PlacesNew name bytes result before steps = MayBeReplaced (before name) → PlacesWhole name bytes result before steps

-- a save to what is no regular file
abbrev pub PlacesStanding : {T E : Type 0} → List ℕ → List ℕ → Result T E → Names → List Step → Type 0
PlacesStanding name bytes result before steps = before name ≡ other → PlacesWhole name bytes result before steps
