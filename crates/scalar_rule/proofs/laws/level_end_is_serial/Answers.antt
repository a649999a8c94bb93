use Rattle.scalar_rule.proofs.LevelRuns.{all_ready-serial}
use Rattle.scalar_rule.proofs.laws.level_end_is_serial.Goals as goal

pub returns : goal.returns
returns c = λ plan s e fits from. all_ready-serial plan s e fits from
