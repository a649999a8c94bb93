-- The files and reserved buffers of a store in memory, from its entries.
use Rattle.std.specs.Prelude.{◌≡◌, ℕ, ◌<◌, List, [], ◌∷◌, length, Option, Some, None, option_map, slice_index_or, string_bytes}
use Rattle.std.specs.Ordering.{nat_cmp}
use Rattle.std.specs.Cmp.Lexicographic.{slice_cmp}
use Rattle.std.specs.FinMap as map
use Rattle.glass_edges.specs.declared.entries.Entry.{Entry}

-- the map with this value at the key, or with none there
abbrev pub set_to : {X : Type 0} → map.FinMap (slice_cmp nat_cmp) X → List ℕ → Option X → map.FinMap (slice_cmp nat_cmp) X
set_to m name None = map.remove m name
set_to m name (Some x) = map.insert m name x

-- the map of what the entries have, where the first entry of a name counts
unfoldable pub map_of : {E X : Type 0} → (E → List ℕ) → (E → Option X) → List E → map.FinMap (slice_cmp nat_cmp) X
map_of named has [] = map.empty
map_of named has (e ∷ es) = set_to (map_of named has es) (named e) (has e)

-- the bytes of an entry's name
abbrev pub name_of : Entry → List ℕ
name_of e = string_bytes e.name

-- the bytes of an entry's file, if it holds one
abbrev pub held_of : Entry → Option (List ℕ)
held_of e = option_map (λ v. v.items) e.held

-- the number of bytes of an entry's reserved buffer, if it has one
abbrev pub room_of : Entry → Option ℕ
room_of e = e.room

-- none of the first so many entries has the name
abbrev pub IsMissing : List Entry → List ℕ → ℕ → Type 0
IsMissing es name count = (k : ℕ) (d : Entry) → k < count → ¬ (name_of (slice_index_or es k d) ≡ name)

-- the entry at this index is the first of the name
pub record IsFirst (es : List Entry) (name : List ℕ) (i : ℕ) : Type 0 where
  pub within : i < length es
  pub named : (d : Entry) → name_of (slice_index_or es i d) ≡ name
  pub before : IsMissing es name i
