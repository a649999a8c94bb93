use Rattle.measured_sums.proofs.Planes.{correlations-add}
use Rattle.measured_sums.proofs.fields.distances_add_up.Goals as goal

pub returns : goal.returns
returns c = correlations-add
