use Rattle.scalar_rule.proofs.LevelRuns.{level-records}
use Rattle.scalar_rule.proofs.laws.level_records_are_serial.Goals as goal

pub returns : goal.returns
returns c = λ plan start samples every e some states. level-records plan start samples every e some states
