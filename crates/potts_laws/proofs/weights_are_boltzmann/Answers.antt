use Rattle.potts_laws.proofs.Balancing.{weights-ratio}
use Rattle.potts_laws.proofs.weights_are_boltzmann.Goals as goal

pub returns : goal.returns
returns c = weights-ratio
