use Rattle.exchange_board.proofs.Pairing.{takes-pair}
use Rattle.exchange_board.proofs.board.Board.next_pair.Goals as goal

pub returns-in-Ok-clause-next : goal.returns-in-Ok-clause-next
returns-in-Ok-clause-next c = takes-pair _ _ _ _ _ c.in-Job.ensures.next c.in-Ok.ensures.pair
