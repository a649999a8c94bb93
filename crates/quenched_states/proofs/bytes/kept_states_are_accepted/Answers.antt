use Rattle.quenched_states.proofs.Accepted.{states-accepted}
use Rattle.quenched_states.proofs.bytes.kept_states_are_accepted.Goals as goal

pub returns : goal.returns
returns g c = states-accepted
