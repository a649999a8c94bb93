use Rattle.model_laws.proofs.SignedSums.{energy-value}
use Rattle.model_laws.proofs.energy.energy_is_hamiltonian.Goals as goal

pub returns : goal.returns
returns c = energy-value
