use Rattle.quenched_states.proofs.Accepted.{accepted-bytes}
use Rattle.quenched_states.proofs.bytes.accepted_bytes_are_kept.Goals as goal

pub returns : goal.returns
returns g c = accepted-bytes
