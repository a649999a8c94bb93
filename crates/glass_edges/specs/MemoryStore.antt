-- A store of named files in memory, with reserved buffers for places, which fails at chosen calls.
use Rattle.std.specs.Prelude.{◌≡◌, ℕ, ◌<◌, ◌≤◌, Bool, true, false, ◌&&◌, ◌==◌, not, cond, nat_le, List, length, Option, Some, None, refl}
use Rattle.std.specs.Ordering.{nat_cmp}
use Rattle.std.specs.Cmp.Lexicographic.{slice_cmp}
use Rattle.std.specs.FinMap as map
use Rattle.std.specs.List.{list_any}
use Rattle.std.specs.Coded.{Coded, code_by, coded×, coded_ℕ, coded_list}
use Rattle.glass_edges.specs.Causes.{one_more}
use Rattle.glass_edges.specs.Contents.{Files}
use Rattle.glass_edges.specs.declared.shelf.Fetched.{Fetched}
use Rattle.glass_edges.specs.declared.shelf.Fetched.TheVariants as answer

-- the names that have a reserved buffer, each with its number of bytes
abbrev pub Rooms : Type 0
Rooms = map.FinMap (slice_cmp nat_cmp) ℕ

-- the files and reserved buffers, the numbers of the calls that fail, and the calls and faults so far
pub record MemoryStore : Type 0 where
  pub files : Files
  pub rooms : Rooms
  pub failing : List ℕ
  pub calls : ℕ
  pub faults : ℕ

-- the next call is one of those that fail
abbrev pub fails_now : MemoryStore → Bool
fails_now s = list_any (λ n. n == s.calls) s.failing

-- after a call that changed no file: it is counted, and a fault where it is one of those that fail
abbrev pub after_fetch : MemoryStore → MemoryStore
after_fetch s = record s { calls = one_more s.calls; faults = cond (fails_now s) (one_more s.faults) s.faults }

-- so many bytes fit in a reserved buffer, if there is one
abbrev pub fits : Option ℕ → ℕ → Bool
fits None count = false
fits (Some room) count = nat_le count room

-- a place of so many bytes is accepted
abbrev pub accepts : MemoryStore → List ℕ → ℕ → Bool
accepts s name count = not (fails_now s) && fits (map.get s.rooms name) count

-- the file is set in its reserved buffer, which is used up
abbrev pub after_fill : MemoryStore → List ℕ → List ℕ → MemoryStore
after_fill s name bytes = record s { files = map.insert s.files name bytes; rooms = map.remove s.rooms name }

-- after a place
abbrev pub after_place : MemoryStore → List ℕ → List ℕ → MemoryStore
after_place s name bytes = cond (accepts s name (length bytes))
    (record s { files = map.insert s.files name bytes; rooms = map.remove s.rooms name; calls = one_more s.calls })
    (record s { calls = one_more s.calls; faults = one_more s.faults })

-- with the file set, and every reserved buffer as before
abbrev pub with_file : MemoryStore → List ℕ → List ℕ → MemoryStore
with_file s name bytes = record s { files = map.insert s.files name bytes }

-- with a buffer of so many bytes reserved for the name, and every file as before
abbrev pub with_room : MemoryStore → List ℕ → ℕ → MemoryStore
with_room s name count = record s { rooms = map.insert s.rooms name count }

-- the name has these bytes, which are within the limit
abbrev pub HoldsWithin : Files → List ℕ → ℕ → List ℕ → Type 0
HoldsWithin files name limit bytes = (map.get files name ≡ Some bytes) × (length bytes ≤ limit)

-- what reading a name of these files answers, each answer exactly by its cause;
-- out of memory comes only where the bytes were due
abbrev pub IsReading : Files → List ℕ → ℕ → Fetched → Type 0
IsReading files name limit (answer.Held v) = HoldsWithin files name limit v.items
IsReading files name limit answer.Absent = map.get files name ≡ None
IsReading files name limit (answer.TooLong n) = (bytes : List ℕ) × (map.get files name ≡ Some bytes) × (n ≡ length bytes) × (limit < n)
IsReading files name limit answer.Failed = ⊥
IsReading files name limit answer.NoMemory = (bytes : List ℕ) × HoldsWithin files name limit bytes

-- what a fetch answers: a failure exactly at the calls that fail, else what reading gives
abbrev pub IsFetched : MemoryStore → List ℕ → ℕ → Fetched → Type 0
IsFetched s name limit answer.Failed = fails_now s ≡ true
IsFetched s name limit fetched = (fails_now s ≡ false) × IsReading s.files name limit fetched

abbrev pub bytes_code : Coded (List ℕ)
bytes_code = coded_list coded_ℕ

abbrev pub files_code : Coded Files
files_code = map.code bytes_code bytes_code

-- the fields as nested pairs
abbrev pub store_code : Coded MemoryStore
store_code =
    code_by (Files × (Rooms × (List ℕ × (ℕ × ℕ)))) (coded× files_code (coded× (map.code bytes_code coded_ℕ) (coded× bytes_code (coded× coded_ℕ coded_ℕ))))
    (λ s. (s.files, (s.rooms, (s.failing, (s.calls, s.faults)))))
    (λ p. record { files = p.0; rooms = p.1.0; failing = p.1.1.0; calls = p.1.1.1.0; faults = p.1.1.1.1 })
    (λ _. refl)
