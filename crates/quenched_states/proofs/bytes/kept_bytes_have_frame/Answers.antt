use Rattle.quenched_states.proofs.KeptFrames.{kept-frame}
use Rattle.quenched_states.proofs.bytes.kept_bytes_have_frame.Goals as goal

pub returns : goal.returns
returns c = kept-frame
