use Rattle.model_laws.proofs.NearlyStays.{boltzmann-nearly-stays}
use Rattle.model_laws.proofs.balance.boltzmann_nearly_stays.Goals as goal

pub returns : goal.returns
returns c = boltzmann-nearly-stays
