use Rattle.measured_sums.proofs.Parts.{epochs-add}
use Rattle.measured_sums.proofs.runs.epochs_add_up.Goals as goal

pub returns : goal.returns
returns c = epochs-add
