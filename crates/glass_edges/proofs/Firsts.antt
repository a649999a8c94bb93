-- The files and reserved buffers of entries of which one is found, changed or added.
use Rattle.std.proofs.Common.{◌≡◌, ℕ, List, [], ◌∷◌, ◌++◌, length, get_or, set, Option, Some, None, refl, sym, ap, ◌∙◌}
use Rattle.std.specs.FinMap as map
use Rattle.std.proofs.lemmas.List.{get_or_default}
use Rattle.glass_edges.specs.Contents.{Files}
use Rattle.glass_edges.specs.MemoryStore.{MemoryStore, Rooms, with_file, with_room, after_fill}
use Rattle.glass_edges.specs.Entries.{set_to, map_of, name_of, held_of, room_of, IsFirst, IsMissing}
use Rattle.glass_edges.specs.declared.entries.Entry.{Entry}
use Rattle.glass_edges.proofs.Maps.{get-first, get-missing, map_of-set, map_of-same, map_of-push, set_to-same}

-- ---- one of the two maps

module _ {X : Type 0} (has : Entry → Option X) where
  -- the name has what its first entry has
  pub first : (es : List Entry) (name : List ℕ) (i : ℕ) → IsFirst es name i → (d : Entry) → map.get (map_of name_of has es) name ≡ has (get_or es i d)
  first es name i f d = get-first name_of has es name i f.within f.named f.before d

  pub missing : (es : List Entry) (name : List ℕ) → IsMissing es name (length es) → map.get (map_of name_of has es) name ≡ None
  missing es name m = get-missing name_of has es name m

  replaced : (es : List Entry) (name : List ℕ) (i : ℕ) (new : Entry) → IsFirst es name i → name_of new ≡ name → map_of name_of has (set es i new) ≡ set_to (map_of name_of has es) name (has new)
  replaced es name i new f named = map_of-set name_of has es name i new f.within f.named f.before named

  kept : (es : List Entry) (name : List ℕ) (i : ℕ) (found new : Entry) → IsFirst es name i → found ≡ get_or es i found → name_of new ≡ name → has new ≡ has found → map_of name_of has (set es i new) ≡ map_of name_of has es
  kept es name i found new f is named same =
      map_of-same name_of has es i new (λ d. named ∙ sym (f.named d)) (λ d. same ∙ ap has (is ∙ get_or_default es i found d f.within))

  pushed : (es : List Entry) (name : List ℕ) (new : Entry) → IsMissing es name (length es) → name_of new ≡ name → map_of name_of has (es ++ new ∷ []) ≡ set_to (map_of name_of has es) name (has new)
  pushed es name new m named = map_of-push name_of has es name new m named

  -- of an entry that has none
  pushed_none : (es : List Entry) (name : List ℕ) (new : Entry) → IsMissing es name (length es) → name_of new ≡ name → has new ≡ None → map_of name_of has (es ++ new ∷ []) ≡ map_of name_of has es
  pushed_none es name new m named none =
      pushed es name new m named ∙ ap (set_to (map_of name_of has es) name) none ∙ set_to-same (map_of name_of has es) name None (missing es name m)

-- ---- both maps, with what else is known of the store

module _ (failing : List ℕ) (calls faults : ℕ) where
  abbrev pub store : List Entry → MemoryStore
  store es = record { files = map_of name_of held_of es; rooms = map_of name_of room_of es; failing = failing; calls = calls; faults = faults }

  same_store : (f g : Files) (r s : Rooms) → f ≡ g → r ≡ s
      → ◌≡◌ {A = MemoryStore} (record { files = f; rooms = r; failing = failing; calls = calls; faults = faults }) (record { files = g; rooms = s; failing = failing; calls = calls; faults = faults })
  same_store f g r s p q = rw (p, q) refl

  -- the first entry of the name gets these bytes
  pub file-set : (es : List Entry) (name : List ℕ) (i : ℕ) (found new : Entry) (bytes : List ℕ) → IsFirst es name i → found ≡ get_or es i found
      → name_of new ≡ name_of found → held_of new ≡ Some bytes → room_of new ≡ room_of found → store (set es i new) ≡ with_file (store es) name bytes
  file-set es name i found new bytes f is same held room =
      let named : name_of new ≡ name = same ∙ ap name_of is ∙ f.named found in
      same_store _ _ _ _ (replaced held_of es name i new f named ∙ ap (set_to (map_of name_of held_of es) name) held) (kept room_of es name i found new f is named room)

  -- an entry of a new name with these bytes is added
  pub file-pushed : (es : List Entry) (name : List ℕ) (new : Entry) (bytes : List ℕ) → IsMissing es name (length es)
      → name_of new ≡ name → held_of new ≡ Some bytes → room_of new ≡ None → store (es ++ new ∷ []) ≡ with_file (store es) name bytes
  file-pushed es name new bytes m named held room =
      same_store _ _ _ _ (pushed held_of es name new m named ∙ ap (set_to (map_of name_of held_of es) name) held) (pushed_none room_of es name new m named room)

  -- the first entry of the name gets a buffer of so many bytes
  pub room-set : (es : List Entry) (name : List ℕ) (i : ℕ) (found new : Entry) (count : ℕ) → IsFirst es name i → found ≡ get_or es i found
      → name_of new ≡ name_of found → held_of new ≡ held_of found → room_of new ≡ Some count → store (set es i new) ≡ with_room (store es) name count
  room-set es name i found new count f is same held room =
      let named : name_of new ≡ name = same ∙ ap name_of is ∙ f.named found in
      same_store _ _ _ _ (kept held_of es name i found new f is named held) (replaced room_of es name i new f named ∙ ap (set_to (map_of name_of room_of es) name) room)

  -- an entry of a new name with such a buffer is added
  pub room-pushed : (es : List Entry) (name : List ℕ) (new : Entry) (count : ℕ) → IsMissing es name (length es)
      → name_of new ≡ name → held_of new ≡ None → room_of new ≡ Some count → store (es ++ new ∷ []) ≡ with_room (store es) name count
  room-pushed es name new count m named held room =
      same_store _ _ _ _ (pushed_none held_of es name new m named held) (pushed room_of es name new m named ∙ ap (set_to (map_of name_of room_of es) name) room)

  -- the first entry of the name gets these bytes in its buffer
  pub filled : (es : List Entry) (name : List ℕ) (i : ℕ) (found new : Entry) (bytes : List ℕ) → IsFirst es name i → found ≡ get_or es i found
      → name_of new ≡ name_of found → held_of new ≡ Some bytes → room_of new ≡ None → store (set es i new) ≡ after_fill (store es) name bytes
  filled es name i found new bytes f is same held room =
      let named : name_of new ≡ name = same ∙ ap name_of is ∙ f.named found in
      same_store _ _ _ _
      (replaced held_of es name i new f named ∙ ap (set_to (map_of name_of held_of es) name) held)
      (replaced room_of es name i new f named ∙ ap (set_to (map_of name_of room_of es) name) room)
