use Rattle.measured_sums.proofs.Planes.{planes-add}
use Rattle.measured_sums.proofs.fields.planes_add_up.Goals as goal

pub returns : goal.returns
returns c = planes-add
