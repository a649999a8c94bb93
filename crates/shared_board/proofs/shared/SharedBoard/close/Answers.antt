-- No word of the value is in work.
use Rattle.shared_board.proofs.Words.{none_out-words}
use Rattle.shared_board.proofs.shared.SharedBoard.close.Goals as goal

pub returns-clause-home : goal.returns-clause-home
returns-clause-home c = none_out-words c.close.result.places c.close.ensures.ended
