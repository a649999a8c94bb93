-- A turn with the waiting before it.
use Rattle.std.proofs.Common.{sym, subst}
use Rattle.turn_cell.specs.AtomicSteps.{with_refused}
use Rattle.turn_cell.specs.Seats.{seat_view}
use Rattle.shared_board.specs.Turns.{TakesSlot}
use Rattle.shared_board.proofs.shared.SharedBoard.take.Goals as goal

pub returns-clause-taken : goal.returns-clause-taken
returns-clause-taken g c =
    subst (λ n. TakesSlot (with_refused (seat_view c.args.pass.now) n) (seat_view c.hand_out.new.pass) c.hand_out.result) (sym c.hand_out.ensures.refused)
    (c.hand_out.ensures.taken (with_refused (seat_view c.args.pass.now) (seat_view c.take_turn-board.new.pass).refused) c.take_turn-board.ensures.taken)
