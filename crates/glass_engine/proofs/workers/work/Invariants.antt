use Rattle.turn_cell.specs.Seats.{seat_view}
use Rattle.shared_board.specs.Shared.{lock_id}
use Rattle.glass_engine.specs.Working.{IsPairGiven, IsSame}
use Rattle.glass_engine.proofs.workers.work.Given as goal

abbrev pub invariant-loop : goal.invariant-loop
invariant-loop g l =
    (goal.iterator-loop g).can_next l.iterator' × (goal.iterator-loop g).is_finite l.iterator'
    × IsPairGiven (lock_id l.shared.board.now) l.shared.plan.now l.next l.seat × IsSame (seat_view l.fn.seat) (seat_view l.seat)
