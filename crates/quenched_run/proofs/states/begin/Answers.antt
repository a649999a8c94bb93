use Rattle.std.specs.Arc.{arc_value}
use Rattle.std.specs.Prelude.{IfOk}
use Rattle.std.proofs.Common.{◌≡◌, List, [], ◌∷◌, ◌++◌, map, ap, sym, subst, ◌∙◌}
use Rattle.plane_sweep.specs.declared.stand.Stand.{Stand}
use Rattle.quenched_run.specs.Quenches.{AreAtTimes, AreGoneOn}
use Rattle.quenched_run.proofs.GoneStates.{first-at-time, kept-if}
use Rattle.quenched_run.proofs.states.begin.Goals as goal

pub go_on-requires-clause-fit : goal.go_on-requires-clause-fit
go_on-requires-clause-fit g c κs within =
    let plans = map arc_value c.args.quench.now.plans.now in
    let times = c.args.quench.now.times.now in
    let first = c.swept_on.result in
    let pushed : c.push.new.self.items ≡ first ∷ [] = c.in_ok-push.ensures.items ∙ ap (λ (xs : List (List Stand)). xs ++ first ∷ []) c.in_ok-states.ensures.items in
    subst (AreAtTimes plans times) (sym (c.of.ensures ∙ pushed)) (first-at-time plans times c.args.base first c.requires c.swept_on.ensures)

pub returns : goal.returns
returns g c =
    let plans = map arc_value c.args.quench.now.plans.now in
    let times = c.args.quench.now.times.now in
    let first = c.swept_on.result in
    let pushed : c.push.new.self.items ≡ first ∷ [] = c.in_ok-push.ensures.items ∙ ap (λ (xs : List (List Stand)). xs ++ first ∷ []) c.in_ok-states.ensures.items in
    let one : c.of.result ≡ first ∷ [] = c.of.ensures ∙ pushed in
    kept-if plans times c.args.base first c.go_on.result c.args.quench.now.times_rise c.requires c.swept_on.ensures
    (subst (λ (xs : List (List Stand)). IfOk c.go_on.result (AreGoneOn plans times xs)) one c.go_on.ensures)
