use Rattle.scalar_rule.proofs.InStep.{steps-short}
use Rattle.scalar_rule.proofs.laws.steps_are_short.Goals as goal

pub returns : goal.returns
returns c = λ n ps long in_step. steps-short n ps long in_step
