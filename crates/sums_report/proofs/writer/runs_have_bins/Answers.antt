use Rattle.sums_report.proofs.RunBins.{runs-have-bins}
use Rattle.sums_report.proofs.writer.runs_have_bins.Goals as goal

pub returns : goal.returns
returns c = runs-have-bins
