use Rattle.scalar_rule.proofs.InStep.{pending-few}
use Rattle.scalar_rule.proofs.laws.pending_records_are_few.Goals as goal

pub returns : goal.returns
returns c = λ n samples every ps long in_step. pending-few n samples every ps long in_step
