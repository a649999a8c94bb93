use Rattle.std.specs.Arc.{arc_value}
use Rattle.std.proofs.Common.{rules, get_or, length, map, refl, subst, sym}
use Rattle.plane_sweep.specs.declared.stand.Stand.{Stand}
use Rattle.plane_sweep.proofs.Gathering.{changed-each}
use Rattle.quenched_run.specs.Steps.{CanSweep, IsStillBank}
use Rattle.quenched_run.proofs.FittingBanks.{can-sweep}
use Rattle.quenched_run.proofs.banks.sweep_banks.Goals as goal

pub for_each_mut-requires-clause-accepts : goal.for_each_mut-requires-clause-accepts
for_each_mut-requires-clause-accepts g c κs within i p below is =
    let plans = map arc_value c.args.quench.now.plans.now in
    ((subst (CanSweep plans c.args.time i) (sym is) (can-sweep plans c.args.time c.args.banks.now i p.now c.requires.fit below), c.requires.time), search rules)

pub returns : goal.returns
returns g c =
    let plans = map arc_value c.args.quench.now.plans.now in
    changed-each (IsStillBank plans c.args.time) (length c.args.banks.now) c.args.banks.now c.for_each_mut.new.s refl (search rules) (λ k d below.
    let swept = (c.for_each_mut.ensures k d below).1 in
    let S = λ (x y : Stand). IsStillBank plans c.args.time k x y in
    subst (λ y. S (get_or c.args.banks.now k d) y) swept.left (subst (λ x. S x swept.after_call.now) swept.argument_is swept.call))
