use Rattle.scalar_rule.proofs.LevelStart.{ready-serial}
use Rattle.scalar_rule.proofs.laws.level_start_is_serial.Goals as goal

pub returns : goal.returns
returns c = λ plan s e t from known. ready-serial plan s e t from known
