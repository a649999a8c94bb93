use Rattle.run_decisions.proofs.Alone.{alone-decided}
use Rattle.run_decisions.proofs.sweeps_alone_are_decisions.Goals as goal

pub returns : goal.returns
returns c = alone-decided
