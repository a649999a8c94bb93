use Rattle.measured_sums.proofs.Parts.{number-epochs}
use Rattle.measured_sums.proofs.runs.number_is_epochs.Goals as goal

pub returns : goal.returns
returns c = number-epochs
