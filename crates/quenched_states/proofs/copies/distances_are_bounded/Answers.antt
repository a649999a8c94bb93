use Rattle.quenched_states.proofs.Fields.{distance-bound}
use Rattle.quenched_states.proofs.copies.distances_are_bounded.Goals as goal

pub returns : goal.returns
returns c = distance-bound
