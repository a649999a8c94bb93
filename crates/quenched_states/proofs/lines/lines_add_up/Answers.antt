use Rattle.quenched_states.proofs.KeptLines.{lines-add}
use Rattle.quenched_states.proofs.lines.lines_add_up.Goals as goal

pub returns : goal.returns
returns c = lines-add
