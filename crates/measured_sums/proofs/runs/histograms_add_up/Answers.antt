use Rattle.measured_sums.proofs.BinSums.{histograms-add}
use Rattle.measured_sums.proofs.runs.histograms_add_up.Goals as goal

pub returns : goal.returns
returns c = histograms-add
