use Rattle.spin_model.specs.Lattice.{bond_count}
use Rattle.scalar_rule.specs.Sums.{is_unsatisfied}
use Rattle.spin_model.proofs.Counts.{count-most}
use Rattle.model_laws.proofs.energy.unsatisfied_are_bonds.Goals as goal

pub returns : goal.returns
returns c = λ l bonds spins. count-most (is_unsatisfied l bonds spins) (bond_count l)
