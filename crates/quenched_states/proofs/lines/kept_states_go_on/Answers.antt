use Rattle.quenched_states.proofs.KeptLines.{kept-go-on}
use Rattle.quenched_states.proofs.lines.kept_states_go_on.Goals as goal

pub returns : goal.returns
returns c = kept-go-on
