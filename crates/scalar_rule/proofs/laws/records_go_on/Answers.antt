use Rattle.scalar_rule.proofs.Resuming.{records-resumed}
use Rattle.scalar_rule.proofs.laws.records_go_on.Goals as goal

pub returns : goal.returns
returns c = records-resumed
