-- Who has taken the lock has its board in hand.
use Rattle.turn_cell.specs.Seats.{seat_view}
use Rattle.shared_board.proofs.Stores.{in-hand}
use Rattle.shared_board.proofs.shared.SharedBoard.hand_out.Goals as goal

pub returns-clause-taken : goal.returns-clause-taken
returns-clause-taken c v has = c.end_hand_out.ensures.taken v c.args.board (in-hand v (seat_view c.args.pass.now) c.args.board has) c.next-next.ensures.phased c.next-next.ensures.next
