use Rattle.observable_laws.proofs.Quenched.{links-sums}
use Rattle.observable_laws.proofs.links_are_link_sums.Goals as goal

pub returns : goal.returns
returns c = links-sums
