use Rattle.quenched_states.proofs.KeptFrames.{kept-read}
use Rattle.quenched_states.proofs.bytes.kept_bytes_are_read.Goals as goal

pub returns : goal.returns
returns c = kept-read
