use Rattle.measured_sums.proofs.Planes.{overlaps-even}
use Rattle.measured_sums.proofs.fields.overlaps_are_even.Goals as goal

pub returns : goal.returns
returns c = overlaps-even
