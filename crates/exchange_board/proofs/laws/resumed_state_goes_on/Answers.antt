use Rattle.exchange_board.proofs.Resuming.{state-resumed}
use Rattle.exchange_board.proofs.laws.resumed_state_goes_on.Goals as goal

pub returns : goal.returns
returns c = λ o d i e stop small upto. state-resumed o d i e stop small upto
