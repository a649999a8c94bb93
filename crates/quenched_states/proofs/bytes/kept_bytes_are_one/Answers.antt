use Rattle.quenched_states.proofs.KeptFrames.{kept-one}
use Rattle.quenched_states.proofs.bytes.kept_bytes_are_one.Goals as goal

pub returns : goal.returns
returns c = kept-one
