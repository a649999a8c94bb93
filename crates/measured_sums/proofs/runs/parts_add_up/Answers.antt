use Rattle.measured_sums.proofs.Parts.{parts-add}
use Rattle.measured_sums.proofs.runs.parts_add_up.Goals as goal

pub returns : goal.returns
returns c = parts-add
