use Rattle.measured_sums.proofs.BoundedSums.{correlation-bound}
use Rattle.measured_sums.proofs.bounds.correlations_are_bounded.Goals as goal

pub returns : goal.returns
returns c = correlation-bound
