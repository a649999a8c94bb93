-- The digest that is added is that of the next plan.
use Rattle.std.proofs.Common.{◌++◌, ap, subst, ◌∙◌, take, map}
use Rattle.std.specs.Arc.{arc_value}
use Rattle.std.specs.List.{flat_map}
use Rattle.sha2.specs.Hashers.{Holds256}
use Rattle.run_plan.specs.CanonicalPlan.{plan_digest}
use Rattle.run_plan.proofs.PlanDigests.{told-plan}
use Rattle.run_plan.proofs.plan_digest.add_digests.Goals as goal

pub plans-preserved : goal.plans-preserved
plans-preserved c = λ m held.
    let digest = c.digest.ensures ∙ ap plan_digest c.deref.ensures in
    told-plan (Holds256 c.update.new.self) arc_value m c.args.plans.now c.plans.plan-index c.plan-item.result c.plans-test.true c.plan-item.is
    (subst (λ d. Holds256 c.update.new.self ((m ++ flat_map plan_digest (take c.plans.plan-index (map arc_value c.args.plans.now))) ++ d)) digest
    (c.update.ensures _ (c.plans.invariant m held)))
