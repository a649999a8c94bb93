use Rattle.model_laws.proofs.Balancing.{weights-ratio}
use Rattle.model_laws.proofs.balance.weights_are_boltzmann.Goals as goal

pub returns : goal.returns
returns c = weights-ratio
