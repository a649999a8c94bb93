use Rattle.observable_laws.proofs.Products.{potts-energy}
use Rattle.observable_laws.proofs.potts_energy_is_a_sum.Goals as goal

pub returns : goal.returns
returns c = potts-energy
