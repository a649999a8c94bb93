use Rattle.scalar_rule.proofs.InStep.{completed-rest}
use Rattle.scalar_rule.proofs.laws.completed_slots_rest.Goals as goal

pub returns : goal.returns
returns c = λ n u ps in_step most sum t known. completed-rest n u ps in_step most sum t known
