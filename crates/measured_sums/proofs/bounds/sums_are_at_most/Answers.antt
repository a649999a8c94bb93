use Rattle.measured_sums.proofs.GreatestSums.{sums-most}
use Rattle.measured_sums.proofs.bounds.sums_are_at_most.Goals as goal

pub returns : goal.returns
returns c = sums-most
