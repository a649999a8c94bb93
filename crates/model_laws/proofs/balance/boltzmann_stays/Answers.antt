use Rattle.model_laws.proofs.Stays.{boltzmann-stays}
use Rattle.model_laws.proofs.balance.boltzmann_stays.Goals as goal

pub returns : goal.returns
returns c = boltzmann-stays
