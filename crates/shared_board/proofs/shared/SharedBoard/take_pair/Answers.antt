-- A turn with the waiting before it.
use Rattle.std.proofs.Common.{sym, subst}
use Rattle.turn_cell.specs.AtomicSteps.{with_refused}
use Rattle.turn_cell.specs.Seats.{seat_view}
use Rattle.shared_board.specs.Turns.{TakesPairOrSlot}
use Rattle.shared_board.proofs.Stores.{in-hand}
use Rattle.shared_board.proofs.shared.SharedBoard.take_pair.Goals as goal

pub returns-clause-taken : goal.returns-clause-taken
returns-clause-taken g c =
    let v = with_refused (seat_view c.args.pass.now) (seat_view c.take_turn-board.new.pass).refused in
    subst (λ n. TakesPairOrSlot (with_refused (seat_view c.args.pass.now) n) (seat_view c.hand_out_pair.new.pass) c.hand_out_pair.result) (sym c.hand_out_pair.ensures.refused)
    (c.hand_out_pair.ensures.taken v (in-hand v (seat_view c.take_turn-board.new.pass) c.take_turn-board.result c.take_turn-board.ensures.taken))
