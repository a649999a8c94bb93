-- The lock's invariant, which holds between any two atomic steps.
-- Word 0 of the table is the turn, 0 free and 1 held; the words after it are the value's progress words.
use Rattle.std.specs.Prelude.{◌≡◌, ◌≢◌, ℕ, ◌<◌, ◌⊎◌, true, false, List, ◌∷◌, Option, Some, length, slice_index}
use mathlib.Core.Option.{some}
use lib.ListN.{get_elem?}
use Rattle.atomic_table.specs.Table.{State}
use Rattle.turn_cell.specs.Sums.{total, numbers_from, times, AreInWork, is_in_work}
use Rattle.turn_cell.specs.Progress.{ArePhased, AtMost, spent_view}
use Rattle.turn_cell.specs.declared.view.View.{View}

module _ {S O : Type 0} where
  -- the seat i of the table has the view v
  abbrev pub HasView : State S (View O) → ℕ → View O → Type 0
  HasView s i v = get_elem? s.views i ≡ some v

  -- one seat holds the lock, and no other does
  pub record HasHolder (s : State S (View O)) : Type 0 where
    pub seat : ℕ
    pub view : View O
    pub there : HasView s seat view
    pub holds : view.holding ≡ true
    pub alone : (j : ℕ) (w : View O) → HasView s j w → w.holding ≡ true → j ≡ seat

module _ {O : Type 0} where
  -- a seat that isn't spent has the one base, total and number of words, and stands for a number
  abbrev pub IsBased : O → ℕ → ℕ → View O → Type 0
  IsBased base all places v =
      (v ≡ spent_view)
      ⊎ ((v.base ≡ Some base) × (v.total ≡ all) × (0 < length v.numbers) × (v.places ≡ places))

module _ {T O : Type 0} (origin : T → O) (marks : T → List ℕ) where
  -- the value has these progress words and this provenance
  abbrev pub Fits : O → List ℕ → T → Type 0
  Fits base words value = (origin value ≡ base) × (marks value ≡ words)

  -- the invariant
  pub record LockRule (s : State (Option T) (View O)) : Type 0 where
    -- the turn, the progress words, the provenance, and how many seats and places there are
    pub turn : ℕ
    pub words : List ℕ
    pub base : O
    pub all : ℕ
    pub places : ℕ
    pub are : s.words ≡ turn ∷ words
    pub long : length words ≡ places
    -- the turn: where it is free no seat holds the lock; where it is held exactly one does
    pub free : turn ≡ 0 → (i : ℕ) (v : View O) → HasView s i v → v.holding ≡ false
    pub held : turn ≢ 0 → (turn ≡ 1) × HasHolder s
    -- the value at home: a free lock has it, with these words and this provenance
    pub bases : (i : ℕ) (v : View O) → HasView s i v → IsBased base all places v
    pub home : turn ≡ 0
        → (value : T) × (get_elem? s.homes 0 ≡ some (some (Some value))) × Fits base words value
    pub phased : ArePhased words
    -- known words: the holder knows them all
    pub known : (i : ℕ) (v : View O) → HasView s i v → v.holding ≡ true → v.known ≡ words
    -- work in hand: each item has its word, and over all seats there is one item at each word of
    -- phase 1 and none at the others
    pub work : (i : ℕ) (v : View O) → HasView s i v → AreInWork words v.out
    pub items : (place : ℕ) → total (λ v. times place v.out) s.views ≡ is_in_work (slice_index words place)
    -- seen words: no word is below what a seat has seen
    pub seen : (i : ℕ) (v : View O) → HasView s i v → AtMost v.seen words
    -- seat numbers: over all seats they are those below `all`, each once, since they have the same
    -- sum under every weight
    pub numbers : (weight : ℕ → ℕ) → total (λ v. total weight v.numbers) s.views ≡ total weight (numbers_from 0 all)
