-- The text of the packed state is that of the serial dynamics.
use Rattle.std.proofs.Common.{◌≡◌, ℕ, arith, length, map, ap, sym, ◌∙◌, subst}
use Rattle.std.specs.Arc.{arc_value}
use Rattle.std.proofs.lemmas.List.{length-map}
use Rattle.glass_edges.proofs.Writing.{writes-same}
use Rattle.glass_engine.specs.BankRuns.{plans_of, runs_of}
use Rattle.glass_engine.specs.Summary.{summary, IsSummed}
use Rattle.run_plan.specs.DemoPlan.{demo_plan}
use Rattle.scalar_rule.specs.Opening.{opening}
use Rattle.scalar_rule.specs.Plan.{Plan}
use Rattle.scalar_rule.specs.declared.sample.Sample.{Sample}
use Rattle.scalar_rule.specs.declared.sample.Start.TheVariants.{Random}
use Rattle.glass_main.proofs.DemoRuns.{first-plan}
use Rattle.glass_main.proofs.demo.put_demo.Goals as goal
use Rattle.glass_main.proofs.demo.put_demo.Goals.{After-deref}

pub bounds-plans-0 : goal.bounds-plans-0
bounds-plans-0 g c =
    let a = ap length c.deref-plans.ensures.value in
    let b = ap length (c.requires.plans ∙ ap plans_of c.requires.run.one) in
    let d = length-map c.args.opened.plans.items arc_value in
    omega arith

-- the plan that is given is the number's
plan : (g : _) (c : After-deref g) → c.deref.result.now ≡ demo_plan c.args.n
plan g c =
    let demo = c.requires.run in
    c.deref.ensures ∙ first-plan arc_value c.deref-plans.result.now c.index-plans-0.result c.args.opened.run demo.run (ap (map arc_value) c.deref-plans.ensures.value ∙ c.requires.plans) demo.one c.index-plans-0.is ∙ demo.plan_is

summed : (g : _) (c : After-deref g) → IsSummed c.deref.result.now (opening (demo_plan c.args.n) Random 0) 16 (runs_of c.drive-done.result)
summed g c =
    let start : ℕ → Sample = opening (demo_plan c.args.n) Random 0 in
    subst (λ p. IsSummed p start 16 (runs_of c.drive-done.result)) (sym (plan g c)) (subst (IsSummed (demo_plan c.args.n) start 16) (sym c.drive-done.ensures.run) c.requires.run)

pub write_summary-requires : goal.write_summary-requires
write_summary-requires g c = (opening (demo_plan c.args.n) Random 0, 16, summed g (goal.at.write_summary-requires g c).After-deref)

pub returns : goal.returns
returns g c =
    let at = (goal.at.returns g c).After-deref in
    let start : ℕ → Sample = opening (demo_plan c.args.n) Random 0 in
    writes-same (ap (λ (p : Plan). summary c.args.n p start 16) (plan g at)) (c.write_summary.ensures.written start 16 (summed g at))
