-- A seat with nothing in work asks in one turn.
use Rattle.turn_cell.specs.AtomicSteps.{with_refused}
use Rattle.turn_cell.specs.Seats.{seat_view}
use Rattle.shared_board.specs.Shared.{lock_id}
use Rattle.glass_engine.proofs.Giving.{given, given-slot}
use Rattle.glass_engine.proofs.workers.ask.Goals as goal

pub returns-then-shared-lt2-clause-given : goal.returns-then-shared-lt2-clause-given
returns-then-shared-lt2-clause-given g c =
    let v = with_refused (seat_view c.args.seat.now) (seat_view c.take.new.pass).refused in
    given-slot (lock_id c.args.shared.now.board.now) c.args.shared.now.plan.now v c.take.new.pass c.take.ensures.own
    c.requires.rest.work c.requires.rest.base c.take.result c.take.ensures.taken

pub returns-else-shared-lt2-clause-given : goal.returns-else-shared-lt2-clause-given
returns-else-shared-lt2-clause-given g c =
    let v = with_refused (seat_view c.args.seat.now) (seat_view c.take_pair.new.pass).refused in
    given (lock_id c.args.shared.now.board.now) c.args.shared.now.plan.now v c.take_pair.new.pass c.take_pair.ensures.own
    c.requires.rest.work c.requires.rest.base c.take_pair.result c.take_pair.ensures.taken
