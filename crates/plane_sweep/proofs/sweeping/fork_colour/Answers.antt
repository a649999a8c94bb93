use Rattle.std.proofs.Common.{rules, subst, get_or}
use Rattle.plane_sweep.specs.PlaneSweep.{SweepsPlane}
use Rattle.plane_sweep.specs.declared.replica.Plane.{Plane}
use Rattle.plane_sweep.proofs.Gathering.{changed-each}
use Rattle.plane_sweep.proofs.sweeping.fork_colour.Goals as goal

pub returns : goal.returns
returns g c =
    changed-each _ _ c.args.own.now c.for_each_mut.new.s c.requires.own (search rules) (λ k d below.
    let swept = (c.for_each_mut.ensures k d below).1 in
    let S : Plane → Plane → Type 0 = SweepsPlane c.args.dynamics.now.couplings.now c.args.other.now c.args.dynamics.now.rule.now c.args.colour k in
    let T : Plane → Type 0 = λ p. S p swept.after_call.now in
    let U : Plane → Type 0 = λ p. S (get_or c.args.own.now k d) p in
    subst U swept.left (subst T swept.argument_is swept.call))
