use Rattle.observable_laws.proofs.Grid.{links-shortest}
use Rattle.observable_laws.proofs.links_are_shortest_lines.Goals as goal

pub returns : goal.returns
returns c = links-shortest
