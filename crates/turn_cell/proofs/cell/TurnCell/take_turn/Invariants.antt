-- After refused tries the seat is as at first, but for their count.
use Rattle.std.proofs.Common.{◌≡◌, ◌≤◌}
use Rattle.turn_cell.specs.AtomicSteps.{with_refused}
use Rattle.turn_cell.specs.Seats.{cell_id, seat_view, IsSeatOf}
use Rattle.turn_cell.proofs.cell.TurnCell.take_turn.Given as goal

abbrev pub invariant-loop : goal.invariant-loop
invariant-loop g l =
    (goal.iterator-loop g).can_next l.iterator' × (goal.iterator-loop g).is_finite l.iterator'
    × IsSeatOf (cell_id l.self) l.pass × ((seat_view l.initial.pass).refused ≤ (seat_view l.pass).refused)
    × (seat_view l.pass ≡ with_refused (seat_view l.initial.pass) (seat_view l.pass).refused)
