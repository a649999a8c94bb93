-- Between two rounds the seat is idle.
use Rattle.std.specs.Prelude.{Some}
use Rattle.turn_cell.specs.Seats.{cell_id, IsIdle}
use Rattle.library_tests.proofs.seats.threads.work.Given as goal

abbrev pub invariant-loop : goal.invariant-loop
invariant-loop g l =
    (goal.iterator-loop g).can_next l.iterator' × (goal.iterator-loop g).is_finite l.iterator'
    × IsIdle (cell_id l.cell) (Some 7) l.total l.seat
