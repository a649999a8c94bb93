use Rattle.scalar_rule.proofs.EnergyParity.{unsatisfied-same}
use Rattle.scalar_rule.proofs.laws.energies_have_one_parity.Goals as goal

pub returns : goal.returns
returns c = unsatisfied-same
