use Rattle.measured_sums.proofs.GreatestSums.{epochs-few}
use Rattle.measured_sums.proofs.bounds.epochs_are_few.Goals as goal

pub returns : goal.returns
returns c = epochs-few
