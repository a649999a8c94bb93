use Rattle.measured_sums.proofs.BinsAndClasses.{bins-digits}
use Rattle.measured_sums.proofs.runs.bins_are_digits.Goals as goal

pub returns : goal.returns
returns c = bins-digits
