use Rattle.observable_laws.proofs.Quenched.{distances-lines}
use Rattle.observable_laws.proofs.distances_are_lines.Goals as goal

pub returns : goal.returns
returns c = distances-lines
