-- The lock's invariant in words: the holder, the items in work and the seats' numbers.
use Rattle.std.specs.Prelude.{◌≡◌, ℕ, ◌+◌, ◌*◌, ◌/◌, ◌%◌, ◌<◌, true, List, Option, slice_index}
use mathlib.Core.Option.{some}
use lib.ListN.{get_elem?}
use Rattle.atomic_table.specs.Table.{State}
use Rattle.turn_cell.specs.Progress.{AtMost}
use Rattle.turn_cell.specs.LockRule.{HasView, LockRule}
use Rattle.turn_cell.specs.declared.view.View.{View}

module _ {T O : Type 0} where
  -- the progress word of a place
  abbrev pub word_at : State (Option T) (View O) → ℕ → ℕ
  word_at s place = slice_index s.words (place + 1)

  -- item k of the work of seat i
  abbrev pub HasItem : State (Option T) (View O) → ℕ → ℕ → ℕ × ℕ → Type 0
  HasItem s i k item = (v : View O) × HasView s i v × (get_elem? v.out k ≡ some item)

  -- number k of those that seat i stands for
  abbrev pub HasNumber : State (Option T) (View O) → ℕ → ℕ → ℕ → Type 0
  HasNumber s i k number = (v : View O) × HasView s i v × (get_elem? v.numbers k ≡ some number)

module _ {T O : Type 0} (origin : T → O) (marks : T → List ℕ) where
  -- no word that the holder knows is below what any seat has seen
  abbrev pub HolderKnowsMost : Type 0
  HolderKnowsMost = (s : State (Option T) (View O)) → LockRule origin marks s
      → (i j : ℕ) (v w : View O) → HasView s i v → v.holding ≡ true → HasView s j w → AtMost w.seen v.known

  -- each item in work has the word 4e + 1 at its place
  abbrev pub ItemsAreInWork : Type 0
  ItemsAreInWork = (s : State (Option T) (View O)) → LockRule origin marks s
      → (i k place e : ℕ) → HasItem s i k (place, e) → word_at s place ≡ 4 * e + 1

  -- each word of phase 1 has exactly one item, in exactly one seat's work
  abbrev pub WorkHasOneSeat : Type 0
  WorkHasOneSeat = (s : State (Option T) (View O)) → LockRule origin marks s
      → (place : ℕ) → word_at s place % 4 ≡ 1
      → (i : ℕ) × (k : ℕ) × HasItem s i k (place, word_at s place / 4)
      × ((j l e : ℕ) → HasItem s j l (place, e) → (j ≡ i) × (l ≡ k))

  -- each number below the total stands at exactly one place, with exactly one seat
  abbrev pub NumbersHaveOneSeat : Type 0
  NumbersHaveOneSeat = (s : State (Option T) (View O)) (r : LockRule origin marks s)
      → (number : ℕ) → number < r.all
      → (i : ℕ) × (k : ℕ) × HasNumber s i k number
      × ((j l : ℕ) → HasNumber s j l number → (j ≡ i) × (l ≡ k))
