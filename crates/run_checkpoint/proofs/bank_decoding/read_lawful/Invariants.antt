use Rattle.std.proofs.Common.{ℕ, ◌<◌, map, get_or}
use Rattle.std.specs.Arc.{arc_value}
use Rattle.scalar_rule.specs.Plan.{Plan, IsLawfulPlan}
use Rattle.run_checkpoint.proofs.bank_decoding.read_lawful.Given as goal

abbrev pub invariant-plans : goal.invariant-plans
invariant-plans l = (k : ℕ) (d : Plan) → k < l.g → IsLawfulPlan (get_or (map arc_value l.plans) k d)
