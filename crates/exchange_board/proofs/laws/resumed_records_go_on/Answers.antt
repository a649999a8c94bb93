use Rattle.exchange_board.proofs.Resuming.{records-resumed}
use Rattle.exchange_board.proofs.laws.resumed_records_go_on.Goals as goal

pub returns : goal.returns
returns c = λ o d e stop upto. records-resumed o d e stop upto
