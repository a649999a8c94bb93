use Rattle.measured_sums.proofs.Growth.{sums-begin}
use Rattle.measured_sums.proofs.runs.sums_begin.Goals as goal

pub returns : goal.returns
returns c = sums-begin
