use Rattle.scalar_rule.proofs.LevelStart.{generators-serial}
use Rattle.scalar_rule.proofs.laws.level_generators_are_serial.Goals as goal

pub returns : goal.returns
returns c = λ plan s e k from known. generators-serial plan s e k from known
