use Rattle.std.proofs.Common.{ℕ, List, ◌++◌, take, map}
use Rattle.std.specs.Arc.{arc_value}
use Rattle.std.specs.List.{flat_map}
use Rattle.sha2.specs.Hashers.{Holds256}
use Rattle.run_plan.specs.CanonicalPlan.{plan_digest}
use Rattle.run_plan.proofs.plan_digest.add_digests.Given as goal

abbrev pub invariant-plans : goal.invariant-plans
invariant-plans l = (m : List ℕ) → Holds256 l.fn.hasher m → Holds256 l.hasher (m ++ flat_map plan_digest (take l.plan-index (map arc_value l.plans)))
