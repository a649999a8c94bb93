use Rattle.measured_sums.proofs.BoundedSums.{overlap-bound}
use Rattle.measured_sums.proofs.bounds.overlaps_are_at_most_one.Goals as goal

pub returns : goal.returns
returns c = overlap-bound
