use Rattle.plane_sums.proofs.MeasuredBounds.{measured-within}
use Rattle.plane_sums.proofs.measured.measured_is_within.Goals as goal

pub returns : goal.returns
returns c = measured-within
