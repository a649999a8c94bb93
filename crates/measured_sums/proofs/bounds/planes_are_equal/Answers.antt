use Rattle.measured_sums.proofs.PlaneSizes.{planes-equal}
use Rattle.measured_sums.proofs.bounds.planes_are_equal.Goals as goal

pub returns : goal.returns
returns c = planes-equal
