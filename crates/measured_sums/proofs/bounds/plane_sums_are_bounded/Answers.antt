use Rattle.measured_sums.proofs.BoundedSums.{plane-bound}
use Rattle.measured_sums.proofs.bounds.plane_sums_are_bounded.Goals as goal

pub returns : goal.returns
returns c = plane-bound
