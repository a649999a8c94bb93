use Rattle.quenched_states.proofs.KeptLines.{quenches-add}
use Rattle.quenched_states.proofs.lines.quenches_add_up.Goals as goal

pub returns : goal.returns
returns c = quenches-add
