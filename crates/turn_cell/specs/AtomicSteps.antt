-- The atomic steps of the lock: what each does to the view of the seat that makes it, and what it tells.
use Rattle.std.specs.Prelude.{◌≡◌, ◌≢◌, ℕ, ◌+◌, ◌-◌, ◌/◌, ◌%◌, ◌<◌, ◌⊎◌, false, true, List, [], ◌∷◌, ◌++◌, Option, Some, length, slice_index, slice_set}
use Rattle.atomic_table.specs.Table.{Me, Step}
use Rattle.turn_cell.specs.Sums.{times, without, AreInWork}
use Rattle.turn_cell.specs.Progress.{ArePhased, AtMost}
use Rattle.turn_cell.specs.declared.view.View.{View}

-- the greater of two numbers
abbrev pub greater : ℕ → ℕ → ℕ
greater x y = x + (y - x)

-- the greater of two words at each place
abbrev pub greatest : List ℕ → List ℕ → List ℕ
greatest [] ys = ys
greatest (x ∷ xs) [] = x ∷ xs
greatest (x ∷ xs) (y ∷ ys) = greater x y ∷ greatest xs ys

-- the first of a list of numbers, and the others
abbrev pub first_of : List ℕ → ℕ
first_of [] = 0
first_of (x ∷ xs) = x

abbrev pub rest_of : List ℕ → List ℕ
rest_of [] = []
rest_of (x ∷ xs) = xs

module _ {O : Type 0} where
  -- the lock is taken: the seat holds it, knows the words, and has taken it once more
  abbrev pub after_turn : View O → List ℕ → View O
  after_turn v known = record v { holding = true; known = known; turns = v.turns + 1 }

  -- of the seat's tries n were refused in all
  abbrev pub with_refused : View O → ℕ → View O
  with_refused v n = record v { refused = n }

  -- one try more was refused
  abbrev pub after_refusal : View O → View O
  after_refusal v = with_refused v (v.refused + 1)

  -- the word of a place is stored, and the seat then has this work
  abbrev pub after_store : View O → ℕ → ℕ → List (ℕ × ℕ) → View O
  after_store v place word out = record v { known = slice_set v.known place word; out = out }

  -- the lock is given back: the seat has seen the words as it leaves them
  abbrev pub after_return : View O → View O
  after_return v = record v { holding = false; seen = v.known }

  -- a seat is split: it gives its first number away
  abbrev pub kept_part : View O → View O
  kept_part v = record v { numbers = rest_of v.numbers }

  -- to a new seat of the same base and total, which has seen the same and has no work
  abbrev pub given_part : View O → View O
  given_part v = record v {
    number = first_of v.numbers;
    holding = false;
    known = [];
    out = [];
    turns = 0;
    refused = 0;
    numbers = first_of v.numbers ∷ [];
  }

  -- two seats are joined: the one that stays has both seats' numbers, and the greater of what they had seen
  abbrev pub after_join : View O → View O → View O
  after_join v w = record v { seen = greatest v.seen w.seen; numbers = v.numbers ++ w.numbers }

  -- The three stores: a word at rest goes into work; a word that this seat has in work waits for its
  -- partner or comes to rest at the next epoch; a word that waits comes to rest.
  abbrev pub IsLawfulStore : View O → ℕ → ℕ → Type 0
  IsLawfulStore v place new = let old = slice_index v.known place in
      (place < length v.known)
      × (((old % 4 ≡ 0) × (new ≡ old + 1))
      ⊎ (((old % 4 ≡ 1) × (0 < times place v.out) × ((new ≡ old + 1) ⊎ (new ≡ old + 3)))
      ⊎ ((old % 4 ≡ 2) × (new ≡ old + 2))))

  -- What each of them does to the seat's work: the item (place, epoch) comes, goes, or none does.
  abbrev pub IsStored : View O → ℕ → ℕ → View O → Type 0
  IsStored v place new w = let old = slice_index v.known place in
      (old % 4 ≡ 0 → w ≡ after_store v place new ((place, old / 4) ∷ v.out))
      × (old % 4 ≡ 1 → w ≡ after_store v place new (without place v.out))
      × (old % 4 ≡ 2 → w ≡ after_store v place new v.out)

module _ {T O : Type 0} (origin : T → O) (marks : T → List ℕ) where
  -- the seat v has taken the lock with this value, and is then w
  pub record IsTaken (v w : View O) (value : T) : Type 0 where
    -- the value's words are what the seat knows
    pub view : w ≡ after_turn v (marks value)
    -- the value's provenance is the seat's
    pub base : v.base ≡ Some (origin value)
    -- no word is below what the seat had seen
    pub seen : AtMost v.seen (marks value)
    -- each item that the seat has in work has its word
    pub work : AreInWork (marks value) v.out
    pub phased : ArePhased (marks value)
    pub sized : length (marks value) ≡ v.places

  -- Of a step, the seat before, the word found and the seat after.
  -- A try: it finds 0 and takes the lock with its value, or it finds 1 and is refused.
  abbrev pub Tries : Step (Option T) → Me (Option T) (View O) → ℕ → Me (Option T) (View O) → Type 0
  Tries st m found n =
      (found ≡ 0 → (value : T) × (n.1 ≡ (0, Some value) ∷ []) × IsTaken m.0 n.0 value)
      × (found ≢ 0 → (found ≡ 1) × (n ≡ (after_refusal m.0, m.1)))

  -- the store of a place's word, which is the word after it in the table
  abbrev pub Stores : Step (Option T) → Me (Option T) (View O) → ℕ → Me (Option T) (View O) → Type 0
  Stores st m found n =
      (n.1 ≡ m.1) × ((place : ℕ) → st.word ≡ place + 1 → IsStored m.0 place st.first n.0)

  -- the lock given back, with the value at home
  abbrev pub GivesBack : Step (Option T) → Me (Option T) (View O) → ℕ → Me (Option T) (View O) → Type 0
  GivesBack st m found n = n ≡ (after_return m.0, [])
