use Rattle.std.proofs.Common.{map, refl, ap, sym, ◌∙◌, subst, lit<, arith}
use Rattle.std.specs.Arc.{arc_value}
use Rattle.spin_model.specs.Limits.{every_take}
use Rattle.glass_engine.specs.BankRuns.{plans_of}
use Rattle.glass_engine.specs.declared.run.SaveKind.TheVariants as saves
use Rattle.glass_engine.specs.Runs.{RunView}
use Rattle.glass_engine.specs.Summary.{BeginsLevel}
use Rattle.plane_sweep.specs.Uneven.{RaggedStandFits}
use Rattle.run_plan.specs.declared.run_file.Orders.{Orders}
use Rattle.scalar_rule.specs.Opening.{opening}
use Rattle.scalar_rule.specs.Plan.{Plan}
use Rattle.scalar_rule.specs.Records.{is_recorded}
use Rattle.scalar_rule.specs.declared.sample.Start.TheVariants.{Random}
use Rattle.glass_main.proofs.DemoRuns.{some-slots, begins-opening}
use Rattle.glass_main.proofs.OpenedRuns.{opening-deep}
use Rattle.glass_main.proofs.demo.open_demo.Goals as goal
use Rattle.glass_main.proofs.demo.open_demo.Goals.{In_ok-plans}

pub open-requires-clause-base : goal.open-requires-clause-base
open-requires-clause-base c =
    let F : Orders → Type 0 = λ o. RaggedStandFits c.in_ok-plan.plan o.samples o.every c.in_ok-base.base in
    let fits = c.in_ok-base.ensures.fits c.in_ok-plan.plan 64 4 c.in_ok-stand.ensures.fits (lit< tt) (lit< tt) (lit< tt) in
    let ordered = subst F (sym c.in_ok-plan.ensures.orders) fits in
    subst (λ (p : Plan). RaggedStandFits p c.in_ok-plan.orders.samples c.in_ok-plan.orders.every c.in_ok-base.base) (sym c.in_ok-plan-2.ensures.ok) ordered

pub open-requires-clause-reach : goal.open-requires-clause-reach
open-requires-clause-reach c =
    let some = some-slots _ _ c.in_ok-plan.ensures.plan in
    let deep = opening-deep c.in_ok-plan.plan _ c.in_ok-stand.stand c.in_ok-base.base some c.in_ok-stand.ensures.fits c.in_ok-stand.ensures.opening c.in_ok-base.ensures.level in
    omega (arith, deep)

-- the run as it is opened
abbrev run : (c : In_ok-plans) → RunView
run c = record {
  plan = arc_value c.in_ok-plan-2.plan;
  base = c.in_ok-base.base;
  orders = c.in_ok-plan.orders;
  until = c.in_ok-plan.orders.epochs;
  takes = every_take;
  saves = saves.Never;
}

pub returns-clause-share : goal.returns-clause-share
returns-clause-share c =
    ap (map arc_value) c.in_ok-plans.ensures ∙ sym (ap plans_of c.in_ok-run.ensures)

pub returns-clause-run : goal.returns-clause-run
returns-clause-run c =
    let run : RunView = run (goal.at.returns-clause-run c).In_ok-plans in
    let orders = c.in_ok-plan.ensures.orders in
    let begins = begins-opening c.in_ok-plan.plan c.in_ok-plan.orders.start c.in_ok-stand.stand run c.in_ok-plan-2.ensures.ok c.in_ok-base.ensures.level c.in_ok-stand.ensures.fits c.in_ok-stand.ensures.opening in
    record {
      run = run;
      one = c.in_ok-run.ensures;
      plan_is = c.in_ok-plan-2.ensures.ok ∙ c.in_ok-plan.ensures.plan;
      begins = subst (λ (p : Plan). BeginsLevel run (opening p Random 0)) c.in_ok-plan.ensures.plan
          (subst (λ (o : Orders). BeginsLevel run (opening c.in_ok-plan.plan o.start 0)) orders begins);
      takes = refl;
      samples = ap (λ (o : Orders). o.samples) orders;
      until = ap (λ (o : Orders). o.epochs) orders;
      some = omega arith;
      recorded = ap (λ (o : Orders). is_recorded o.every 15) orders;
    }
