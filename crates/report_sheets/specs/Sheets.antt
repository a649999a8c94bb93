-- What is on a sheet, and the epochs of the parts of a round.
use Rattle.std.specs.Prelude.{◌≡◌, ℕ, ◌+◌, ◌*◌, ◌≤◌, true, min, List, length, All}
use Rattle.report_sheets.specs.Views.{SheetView}
use Rattle.report_sheets.specs.declared.round.Round.{Round}
use Rattle.report_sheets.specs.declared.turn.Turn.{Turn}

-- a sheet's text is the rows of its epochs, where all of them fitted
abbrev pub HasItsRows : (ℕ → ℕ → List ℕ) → SheetView → Type 0
HasItsRows text s = s.whole ≡ true → s.text ≡ text s.from s.to

-- the epoch at which part k of a round begins, and part k - 1 ends
abbrev pub start_of : Round → ℕ → ℕ
start_of round k = min (round.first + round.step * k) round.last

-- the rows of a source can be made between the epochs of a round
pub record CanFill {S : Type 0} (ready : S → Type 0) (begin end : S → ℕ) (rows : S) (round : Round) : Type 0 where
  pub can : ready rows
  pub from : begin rows ≤ round.first
  pub window : round.first ≤ round.last
  pub to : round.last ≤ end rows

-- sheets have the rows of their epochs, there are as many as one round has parts, and the rows of that one and of the next can be made
pub record CanTurn {S : Type 0} (ready : S → Type 0) (text : S → ℕ → ℕ → List ℕ) (begin end : S → ℕ) (rows : S) (turn : Turn) : Type 0 where
  pub done : CanFill ready begin end rows turn.done
  pub filled : All (HasItsRows (text rows)) turn.filled.now
  pub all : start_of turn.done (length turn.filled.now) ≡ turn.done.last
  pub next : CanFill ready begin end rows turn.next
  pub each : 1 ≤ turn.each
