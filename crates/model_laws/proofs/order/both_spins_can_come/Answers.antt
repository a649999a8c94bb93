use Rattle.model_laws.proofs.Reached.{both-spins}
use Rattle.model_laws.proofs.order.both_spins_can_come.Goals as goal

pub returns : goal.returns
returns c = both-spins
