use Rattle.run_laws.proofs.AcceptedParts.{parts-accepted}
use Rattle.run_laws.proofs.laws.parts_are_accepted.Goals as goal

pub returns : goal.returns
returns c = λ plan orders from until start end some accepted. parts-accepted plan orders from until start end some accepted
