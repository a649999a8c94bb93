use Rattle.scalar_rule.proofs.LevelRuns.{arrived-serial}
use Rattle.scalar_rule.proofs.laws.level_start_waits.Goals as goal

pub returns : goal.returns
returns c = λ plan s e t from known. arrived-serial plan s e t from known
