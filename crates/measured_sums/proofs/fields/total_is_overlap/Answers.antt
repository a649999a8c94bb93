use Rattle.measured_sums.proofs.Planes.{total-overlap}
use Rattle.measured_sums.proofs.fields.total_is_overlap.Goals as goal

pub returns : goal.returns
returns c = total-overlap
