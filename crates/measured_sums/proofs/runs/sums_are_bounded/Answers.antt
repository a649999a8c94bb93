use Rattle.measured_sums.proofs.Inequalities.{sums-bounded}
use Rattle.measured_sums.proofs.runs.sums_are_bounded.Goals as goal

pub returns : goal.returns
returns c = sums-bounded
