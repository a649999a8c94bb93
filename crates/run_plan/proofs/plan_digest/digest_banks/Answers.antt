-- One plan's digest, or that of the message.
use Rattle.std.proofs.Common.{ap, ◌∙◌, arith}
use Rattle.std.specs.Arc.{arc_value}
use Rattle.run_plan.specs.CanonicalPlan.{plan_digest}
use Rattle.run_plan.proofs.PlanDigests.{digest-one, digest-several}
use Rattle.run_plan.proofs.plan_digest.digest_banks.Goals as goal

pub returns-then-plans-eq1 : goal.returns-then-plans-eq1
returns-then-plans-eq1 c =
    c.digest.ensures ∙ ap plan_digest c.deref.ensures ∙ digest-one arc_value c.args.plans.now c.index-plans-0.result c.if-plans-eq1.true c.index-plans-0.is

pub returns : goal.returns
returns c =
    let held = c.add_digests.ensures _ (c.add_u32.ensures _ (c.update.ensures _ c.new-hasher.ensures)) in
    c.finalize.ensures _ held ∙ digest-several arc_value c.args.plans.now (omega (arith, c.requires.some, c.if-plans-eq1.false))
