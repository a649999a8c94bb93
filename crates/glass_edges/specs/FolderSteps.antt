-- What stands under the names of files, and the steps by which the system changes it. Each step may be the last.
use Rattle.std.specs.Prelude.{◌≡◌, ◌⊎◌, ℕ, Bool, true, false, cond, List, [], ◌∷◌, ◌++◌, take, Option, option_map, Result, OnOk, OnErr}
use Rattle.std.specs.Str.{bytes_eq}
use Rattle.glass_edges.specs.declared.folders.Standing.{Standing}
use Rattle.glass_edges.specs.declared.folders.Standing.TheVariants.{Nothing, Regular, Other}

-- ---- what stands under a name

-- a regular file: its bytes, whether all of them are on the disk, and whether it may be written
pub record RegularFile : Type 0 where
  pub bytes : List ℕ
  pub flushed : Bool
  pub writable : Bool

-- nothing, a regular file, or another thing, as a device, a pipe, a folder or a link
pub data Thing : Type 0 where
  nothing : Thing
  regular : RegularFile → Thing
  other : Thing

-- by the bytes of a name
abbrev pub Names : Type 0
Names = List ℕ → Thing

-- the names, where this one has another thing
abbrev pub with_thing : Names → List ℕ → Thing → Names
with_thing names name thing = λ any. cond (bytes_eq any name) thing (names any)

abbrev pub empty_file : Thing
empty_file = regular (record { bytes = []; flushed = false; writable = true })

-- ---- steps

-- what the system does for one call; names and bytes are those that the call is given
pub data Step : Type 0 where
  -- what stands under the name is looked at
  looks : List ℕ → Step
  -- what stands there is opened, and the file has no bytes any more
  empties : List ℕ → Step
  -- an empty file is made
  makes : List ℕ → Step
  -- the bytes are written behind those of the file
  writes : List ℕ → List ℕ → Step
  -- all bytes of the file are brought to the disk
  flushes : List ℕ → Step
  -- what has the first name takes the second
  renames : List ℕ → List ℕ → Step
  -- the name is removed
  removes : List ℕ → Step
  -- an error is answered to the step
  fails : Step → Step

-- a thing other than a regular file stays what it is
abbrev pub emptied : Thing → Thing
emptied nothing = empty_file
emptied (regular file) = regular (record file { bytes = []; flushed = false })
emptied other = other

abbrev pub written : List ℕ → Thing → Thing
written piece (regular file) = regular (record file { bytes = file.bytes ++ piece; flushed = false })
written piece thing = thing

abbrev pub flushed : Thing → Thing
flushed (regular file) = regular (record file { flushed = true })
flushed thing = thing

-- the names after a step; where an error was answered, the step that was done all the same stands before it
abbrev pub after : Step → Names → Names
after (looks name) names = names
after (empties name) names = with_thing names name (emptied (names name))
after (makes name) names = with_thing names name empty_file
after (writes name piece) names = with_thing names name (written piece (names name))
after (flushes name) names = with_thing names name (flushed (names name))
after (renames from to) names = with_thing (with_thing names from nothing) to (names from)
after (removes name) names = with_thing names name nothing
after (fails step) names = names

-- the names after steps, the first of them first
abbrev pub after_all : List Step → Names → Names
after_all [] names = names
after_all (step ∷ steps) names = after_all steps (after step names)

-- the property holds before the first of the steps and after each of them
abbrev pub AtEach : (Names → Type 0) → Names → List Step → Type 0
AtEach P names [] = P names
AtEach P names (step ∷ steps) = P names × AtEach P (after step names) steps

-- the property holds of each of the steps
abbrev pub EachStep : (Step → Type 0) → List Step → Type 0
EachStep P [] = Unit {0}
EachStep P (step ∷ steps) = P step × EachStep P steps

-- ---- what calls do

-- the names at first, and all steps since
pub record Past : Type 0 where
  pub first : Names
  pub steps : List Step

-- the names now
abbrev pub present : Past → Names
present past = after_all past.steps past.first

abbrev pub with_steps : List Step → Past → Past
with_steps steps past = record past { steps = past.steps ++ steps }

-- where the steps are observable: these were done and no other
abbrev pub Did : List Step → Option Past → Option Past → Type 0
Did steps before now = now ≡ option_map (with_steps steps) before

-- an error was answered to the step, which may have been done all the same
abbrev pub Failed : Step → Option Past → Option Past → Type 0
Failed step before now = Did (fails step ∷ []) before now ⊎ Did (step ∷ fails step ∷ []) before now

-- the call does the step, or answers an error
pub record Does {T E : Type 0} (step : Step) (before now : Option Past) (result : Result T E) : Type 0 where
  pub passed : OnOk result (Did (step ∷ []) before now)
  pub failed : OnErr result (Failed step before now)

-- the same of a step that may be done in part: a front of the bytes is written
pub record FailedWrite (name piece : List ℕ) (before now : Option Past) : Type 0 where
  pub count : ℕ
  pub front : Failed (writes name (take count piece)) before now

-- a call that only looks does nothing
pub record Looks {T E : Type 0} (name : List ℕ) (before now : Option Past) (result : Result T E) : Type 0 where
  pub passed : OnOk result (now ≡ before)
  pub failed : OnErr result (Did (fails (looks name) ∷ []) before now)

-- what is told of a name is what stands there
abbrev pub Tells : Standing → Thing → Type 0
Tells Nothing thing = thing ≡ nothing
Tells Regular thing = (file : RegularFile) × (thing ≡ regular file)
Tells Other thing = thing ≡ other

-- a regular file that stands there may be written
abbrev pub MayBeWritten : Thing → Type 0
MayBeWritten thing = (file : RegularFile) → thing ≡ regular file → file.writable ≡ true
