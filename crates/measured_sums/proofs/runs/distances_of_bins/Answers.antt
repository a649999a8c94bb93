use Rattle.measured_sums.proofs.BinSums.{bins-squares}
use Rattle.measured_sums.proofs.runs.distances_of_bins.Goals as goal

pub returns : goal.returns
returns c = bins-squares
