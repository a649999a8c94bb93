use Rattle.quenched_states.proofs.KeptFrames.{kept-long}
use Rattle.quenched_states.proofs.bytes.kept_bytes_are_long.Goals as goal

pub returns : goal.returns
returns c = kept-long
