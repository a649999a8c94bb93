use Rattle.observable_laws.proofs.Grid.{lines-symmetric}
use Rattle.observable_laws.proofs.lines_are_symmetric.Goals as goal

pub returns : goal.returns
returns c = lines-symmetric
