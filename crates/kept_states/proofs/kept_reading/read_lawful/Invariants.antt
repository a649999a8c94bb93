use Rattle.std.proofs.Common.{ℕ, ◌<◌, map, get_or}
use Rattle.std.specs.Arc.{arc_value}
use Rattle.scalar_rule.specs.Plan.{Plan, IsLawfulPlan}
use Rattle.kept_states.proofs.kept_reading.read_lawful.Given as goal

abbrev pub invariant-plans : goal.invariant-plans
invariant-plans l = (k : ℕ) (d : Plan) → k < l.g → IsLawfulPlan (get_or (map arc_value l.plans) k d)
