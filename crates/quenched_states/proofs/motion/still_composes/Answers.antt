use Rattle.quenched_states.proofs.StillParts.{still-composes}
use Rattle.quenched_states.proofs.motion.still_composes.Goals as goal

pub returns : goal.returns
returns c = still-composes
