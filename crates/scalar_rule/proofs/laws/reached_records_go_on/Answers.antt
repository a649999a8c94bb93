use Rattle.scalar_rule.proofs.ReachedRuns.{records-reached}
use Rattle.scalar_rule.proofs.laws.reached_records_go_on.Goals as goal

pub returns : goal.returns
returns c = λ plan samples every e starts pending later kept all upto. records-reached plan samples every e starts pending later kept all upto
