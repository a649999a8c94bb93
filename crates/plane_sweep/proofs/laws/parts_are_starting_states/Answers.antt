use Rattle.plane_sweep.proofs.Starting.{parts-start}
use Rattle.plane_sweep.proofs.laws.parts_are_starting_states.Goals as goal

pub returns : goal.returns
returns c = λ plan stand fits. parts-start plan stand fits
