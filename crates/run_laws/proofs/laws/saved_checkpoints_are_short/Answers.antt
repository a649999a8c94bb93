use Rattle.run_laws.proofs.CheckpointLengths.{saved-short}
use Rattle.run_laws.proofs.laws.saved_checkpoints_are_short.Goals as goal

pub returns : goal.returns
returns c = saved-short
