use Rattle.measured_sums.proofs.BinsAndClasses.{classes-add}
use Rattle.measured_sums.proofs.fields.classes_add_up.Goals as goal

pub returns : goal.returns
returns c = classes-add
