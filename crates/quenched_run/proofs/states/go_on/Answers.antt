use Rattle.std.specs.Arc.{arc_value}
use Rattle.std.proofs.Common.{◌≡◌, ◌+◌, ◌-◌, ◌<◌, List, [], ◌∷◌, ◌++◌, length, map, get_or, sym, subst, arith}
use Rattle.std.proofs.lemmas.List.{get_or_read}
use Rattle.plane_sweep.specs.declared.stand.Stand.{Stand}
use Rattle.quenched_states.specs.KeptStates.{time_at}
use Rattle.quenched_run.specs.Steps.{AreStill}
use Rattle.quenched_run.proofs.GoneStates.{GoneTo, gone-more}
use Rattle.quenched_run.proofs.states.go_on.Goals as goal

pub times-preserved : goal.times-preserved
times-preserved g c =
    let plans = map arc_value c.args.quench.now.plans.now in
    let times = c.args.quench.now.times.now in
    let held = c.args.held in
    let j = c.times.j in
    let states = c.times.states.items in
    let next = c.in_ok-next.next in
    let gone = c.times.invariant in
    let more : j < length times = omega arith in
    let pushed : c.push.new.self.items ≡ states ++ next ∷ [] = c.in_ok-push.ensures.items in
    let last : c.index.result.now ≡ get_or states (j - 1) [] = get_or_read states (j - 1) c.index.result.now (omega (arith, c.requires.some, gone.from, gone.count)) c.index.ensures [] in
    let swept = subst (λ (banks : List Stand). AreStill plans (time_at times j) banks next) last c.in_ok-next.ensures in
    subst (λ xs. GoneTo plans times held xs (j + 1)) (sym pushed)
    (gone-more plans times held c.requires.fit states next j c.args.quench.now.times_rise c.requires.some more gone swept)
