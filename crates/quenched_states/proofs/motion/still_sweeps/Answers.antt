use Rattle.quenched_states.proofs.StillParts.{still-sweeps}
use Rattle.quenched_states.proofs.motion.still_sweeps.Goals as goal

pub returns : goal.returns
returns c = still-sweeps
