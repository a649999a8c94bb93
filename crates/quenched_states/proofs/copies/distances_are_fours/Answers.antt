use Rattle.quenched_states.proofs.Rings.{distances-fours}
use Rattle.quenched_states.proofs.copies.distances_are_fours.Goals as goal

pub returns : goal.returns
returns c = distances-fours
