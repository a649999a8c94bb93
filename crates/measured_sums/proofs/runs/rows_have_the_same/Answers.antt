use Rattle.measured_sums.proofs.BinSums.{rows-same}
use Rattle.measured_sums.proofs.runs.rows_have_the_same.Goals as goal

pub returns : goal.returns
returns c = rows-same
