use Rattle.measured_sums.proofs.BinRange.{bins-between}
use Rattle.measured_sums.proofs.runs.bins_are_between.Goals as goal

pub returns : goal.returns
returns c = bins-between
