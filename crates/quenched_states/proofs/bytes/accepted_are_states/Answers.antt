use Rattle.quenched_states.proofs.Accepted.{accepted-states}
use Rattle.quenched_states.proofs.bytes.accepted_are_states.Goals as goal

pub returns : goal.returns
returns g c = accepted-states
