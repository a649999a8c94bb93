use Rattle.std.proofs.Common.{sym, ap, ◌∙◌}
use Rattle.std.proofs.lemmas.List.{drop_more, drop_all}
use Rattle.glass_edges.proofs.FirstRefusals.{goes-on, ends, nothing}
use Rattle.kept_states.specs.Levels.{stands_at}
use Rattle.kept_states.specs.Steps.{other_time_at}
use Rattle.kept_states.proofs.ReadingSteps.{next-stands, time-differs, time-agrees}
use Rattle.kept_states.proofs.kept_reading.other_time.Goals as goal

pub returns-then-epoch-times : goal.returns-then-epoch-times
returns-then-epoch-times c =
    let stands = c.index-states-j.result in
    ends (other_time_at c.args.times.now) c.states.j stands _ _ _ _ (next-stands c.args.states.now c.states.j stands c.states-test.true c.index-states-j.is)
    (time-differs c.args.times.now c.states.j c.epoch_of-epoch.result stands (c.epoch_of-epoch.ensures ∙ ap stands_at c.as_slice.ensures) c.if-epoch-times.true) c.states.invariant

pub states-preserved : goal.states-preserved
states-preserved c =
    let stands = c.index-states-j.result in
    goes-on (other_time_at c.args.times.now) c.states.j stands _ _ _ (next-stands c.args.states.now c.states.j stands c.states-test.true c.index-states-j.is)
    (time-agrees c.args.times.now c.states.j c.epoch_of-epoch.result stands (c.epoch_of-epoch.ensures ∙ ap stands_at c.as_slice.ensures) c.if-epoch-times.false) c.states.invariant

pub returns : goal.returns
returns c = nothing (other_time_at c.args.times.now) c.states.j _ _ (drop_all c.states.j c.args.states.now c.states-test.false) c.states.invariant
