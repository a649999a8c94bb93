use Rattle.measured_sums.proofs.Growth.{sums-grow}
use Rattle.measured_sums.proofs.runs.sums_grow.Goals as goal

pub returns : goal.returns
returns c = sums-grow
