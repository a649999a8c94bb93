use Rattle.model_laws.proofs.Turning.{aligned-turned, satisfied-turned}
use Rattle.model_laws.proofs.energy.turning_exchanges_bonds.Goals as goal

pub returns : goal.returns
returns c = λ l bonds spins i lawful sized within. (aligned-turned l bonds spins i lawful within, satisfied-turned l bonds spins i lawful sized within)
