-- The shared board, its seats, and the holder of its lock.
use Rattle.std.specs.Prelude.{◌≡◌, ℕ, ◌%◌, ◌<◌, true, List, Some, length, slice_index, slice_set}
use Rattle.atomic_table.specs.Seated.{TableId}
use Rattle.exchange_board.specs.declared.origin.Origin.{Origin}
use Rattle.exchange_board.specs.declared.board.Next.{Next}
use Rattle.exchange_board.specs.declared.board.Next.TheVariants as nexts
use Rattle.exchange_board.specs.Answers.{Nexts}
use Rattle.exchange_board.specs.Machine.{IsPhased}
use Rattle.exchange_board.specs.Views.{BoardView, place_at, progress, words_of}
use Rattle.turn_cell.specs.AtomicSteps.{IsTaken, IsLawfulStore, after_refusal, after_return}
use Rattle.turn_cell.specs.Seats.{cell_id}
use Rattle.turn_cell.specs.declared.view.View.{View}
use Rattle.shared_board.specs.declared.shared.SharedBoard.{SharedBoard}
use Rattle.shared_board.specs.declared.taking.TryNext.{TryNext}
use Rattle.shared_board.specs.declared.taking.TryNext.TheVariants as tries
use Rattle.shared_board.specs.Turns.{TakesSlot}

-- which lock it is
abbrev pub lock_id : SharedBoard → TableId
lock_id b = cell_id b.cell

-- the seat v took the lock, is then h, and found this board
abbrev pub HasFound : View Origin → View Origin → BoardView → Type 0
HasFound v h b = IsTaken (λ (c : BoardView). c.origin) words_of v h b

-- the seat v took the lock, is now h, and has this board in hand, whose words h then knows, whatever it has changed since
abbrev pub HasInHand : View Origin → View Origin → BoardView → Type 0
HasInHand v h b = HasFound v (record h { seen = v.seen }) b

-- the seat h, which holds the lock, had it given it back here, and taken it as often as v
abbrev pub as_returned : View Origin → View Origin → View Origin
as_returned v h = record (after_return h) { turns = v.turns }

-- the seat holds the lock, and knows the words and the provenance of this board
pub record IsHolderOf (h : View Origin) (b : BoardView) : Type 0 where
  pub held : h.holding ≡ true
  pub words : h.known ≡ words_of b
  pub base : h.base ≡ Some b.origin

-- the holder of a board that, when it was asked, gave this answer and is now c
pub record HasAsked (h : View Origin) (c : BoardView) (next : Next) : Type 0 where
  pub before : BoardView
  pub holder : IsHolderOf h before
  pub phased : IsPhased before.places
  pub answer : Nexts before c next

-- the holder, whose words are those of this board but for slot t, which came back
pub record CanEnd (h : View Origin) (b : BoardView) (t : ℕ) : Type 0 where
  pub held : h.holding ≡ true
  pub base : h.base ≡ Some b.origin
  pub known : t < length b.places
  pub own : slice_index h.known t % 4 ≡ 1
  pub lawful : IsLawfulStore h t (progress (place_at b.places t))
  pub words : words_of b ≡ slice_set h.known t (progress (place_at b.places t))

-- the seat once it knows these words and has this work
abbrev pub knows : View Origin → List ℕ → List (ℕ × ℕ) → View Origin
knows h words out = record h { known = words; out = out }

-- what one try to take a slot answers
abbrev pub TriesSlot : View Origin → View Origin → TryNext → Type 0
TriesSlot v w (tries.Job j) = TakesSlot v w (nexts.Job j)
TriesSlot v w tries.Nothing = TakesSlot v w nexts.Nothing
TriesSlot v w tries.Finished = TakesSlot v w nexts.Finished
TriesSlot v w tries.Stopped = TakesSlot v w nexts.Stopped
TriesSlot v w tries.Busy = w ≡ after_refusal v
