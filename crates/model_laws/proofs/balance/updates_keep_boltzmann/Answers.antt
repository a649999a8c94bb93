use Rattle.model_laws.proofs.Balancing.{keeps-boltzmann}
use Rattle.model_laws.proofs.balance.updates_keep_boltzmann.Goals as goal

pub returns : goal.returns
returns c = keeps-boltzmann
