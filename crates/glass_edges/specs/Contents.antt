-- What an output has taken and what a store of named files holds, as far as they are observable.
use Rattle.std.specs.Prelude.{◌≡◌, ℕ, ◌<◌, ◌≤◌, List, ◌++◌, length, take, slice_index, Option, Some, None, option_map}
use Rattle.std.specs.Ordering.{nat_cmp}
use Rattle.std.specs.Cmp.Lexicographic.{slice_cmp}
use Rattle.std.specs.FinMap as map

-- ---- outputs

-- what an output has taken after these bytes, where that is observable
abbrev pub appended : Option (List ℕ) → List ℕ → Option (List ℕ)
appended taken bytes = option_map (λ xs. xs ++ bytes) taken

-- a prefix of the bytes was appended, which may be all of them or none
pub record AppendsPrefix (before now : Option (List ℕ)) (bytes : List ℕ) : Type 0 where
  pub count : ℕ
  pub within : count ≤ length bytes
  pub same : now ≡ appended before (take count bytes)

-- of a text a front was appended, and the rest of it is still to be put
pub record PutsFront (before now : Option (List ℕ)) (text rest : List ℕ) : Type 0 where
  pub front : List ℕ
  pub whole : text ≡ front ++ rest
  pub same : now ≡ appended before front

-- the bytes that a line has room for
abbrev pub line_room : ℕ
line_room = 4096

-- where an index can give only such bytes, they are those of a text
pub record TellsBytes (gives : ℕ → ℕ → Type 0) (count : ℕ) (text : List ℕ) : Type 0 where
  pub sized : length text ≡ count
  pub each : (k byte : ℕ) → k < count → gives k byte → byte ≡ slice_index text k

-- ---- stores of named files

-- the bytes of each file by the bytes of its name
abbrev pub Files : Type 0
Files = map.FinMap (slice_cmp nat_cmp) (List ℕ)

-- the number of bytes of a name
abbrev pub length_in : Files → List ℕ → Option ℕ
length_in files name = option_map (λ bytes. length bytes) (map.get files name)

-- and of files that may not be observable
abbrev pub observed_length : Option Files → List ℕ → Option ℕ
observed_length None name = None
observed_length (Some files) name = length_in files name

-- where the files are observable, the name has exactly these bytes
abbrev pub HoldsFile : Option Files → List ℕ → List ℕ → Type 0
HoldsFile None name bytes = Unit {0}
HoldsFile (Some files) name bytes = map.get files name ≡ Some bytes

-- where the files are observable, none has this name
abbrev pub LacksFile : Option Files → List ℕ → Type 0
LacksFile None name = Unit {0}
LacksFile (Some files) name = map.get files name ≡ None

-- where the files are observable, the name has at least so many bytes
abbrev pub HoldsAtLeast : Option Files → List ℕ → ℕ → Type 0
HoldsAtLeast None name count = Unit {0}
HoldsAtLeast (Some files) name count = (bytes : List ℕ) × (map.get files name ≡ Some bytes) × (count ≤ length bytes)

-- where the files are observable before and after: the name has these bytes now, and all else is as before
abbrev pub Placed : Option Files → Option Files → List ℕ → List ℕ → Type 0
Placed None now name bytes = Unit {0}
Placed (Some before) None name bytes = Unit {0}
Placed (Some before) (Some now) name bytes = now ≡ map.insert before name bytes

-- where the files are observable before and after: all files but this one are as before
abbrev pub SameElsewhere : Option Files → Option Files → List ℕ → Type 0
SameElsewhere None now name = Unit {0}
SameElsewhere (Some before) None name = Unit {0}
SameElsewhere (Some before) (Some now) name = map.remove now name ≡ map.remove before name
