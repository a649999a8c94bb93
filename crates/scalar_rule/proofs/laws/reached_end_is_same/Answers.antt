use Rattle.scalar_rule.proofs.ReachedRuns.{all_ready-reached}
use Rattle.scalar_rule.proofs.laws.reached_end_is_same.Goals as goal

pub returns : goal.returns
returns c = λ plan s r e reached past. all_ready-reached plan s r e reached past
