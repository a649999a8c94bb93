use Rattle.measured_sums.proofs.BinSums.{bins-cover}
use Rattle.measured_sums.proofs.runs.bins_cover_the_run.Goals as goal

pub returns : goal.returns
returns c = bins-cover
