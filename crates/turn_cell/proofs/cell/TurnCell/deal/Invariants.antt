-- So many seats were dealt, and the last one stands for the others.
use Rattle.std.proofs.Common.{◌≡◌, ◌≤◌, ◌+◌, length}
use Rattle.turn_cell.specs.Progress.{first_view}
use Rattle.turn_cell.specs.Seats.{cell_id, seat_view, IsSeatOf}
use Rattle.turn_cell.proofs.Ending.{IsDealt}
use Rattle.turn_cell.proofs.cell.TurnCell.deal.Given as goal

abbrev pub invariant-loop-number : goal.invariant-loop-number
invariant-loop-number g l =
    IsSeatOf (cell_id l.self) l.last
    × (length l.seats.items + 1 ≡ l._number)
    × (l.fn.passes ≤ l.seats.cap)
    × ((base : _) (places : _) → seat_view l.fn.last ≡ first_view base places l.fn.passes → IsDealt (cell_id l.self) base places l.fn.passes (seat_view l.last) l.seats.items)
