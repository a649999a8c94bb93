use Rattle.measured_sums.proofs.BoundedSums.{link-bound}
use Rattle.measured_sums.proofs.bounds.links_are_bounded.Goals as goal

pub returns : goal.returns
returns c = link-bound
