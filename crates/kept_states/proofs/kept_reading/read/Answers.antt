-- The times are the last that is tested.
use Rattle.std.specs.Arc.{arc_value}
use Rattle.std.proofs.Common.{map, ap, ◌∙◌}
use Rattle.std.proofs.lemmas.Result.{err_from_is_err_and}
use Rattle.kept_states.specs.Steps.{other_time}
use Rattle.kept_states.proofs.ReadingSteps.{gives-err, timed-err, timed-refused, timed-ok}
use Rattle.kept_states.proofs.kept_reading.read.Goals as goal

pub returns-in_err-states : goal.returns-in_err-states
returns-in_err-states c =
    let p = err_from_is_err_and c.from_residual.result c.from_residual.ensures.1 in
    gives-err c.from_residual.result p.0 c.in_err-states.field-0.0 _ p.1 p.2
    (λ not. timed-err (map arc_value c.args.plans.now) c.args.times.now c.args.bytes.now c.in_err-states.field-0.0 (c.in_err-states.ensures.exact not))

pub returns-in-None : goal.returns-in-None
returns-in-None c =
    timed-ok (map arc_value c.args.plans.now) c.args.times.now c.args.bytes.now c.in_ok-states.states c.in_ok-states.ensures.exact
    (c.in-None.ensures ∙ ap (other_time c.args.times.now) c.as_slice.ensures)

pub returns-in-Some : goal.returns-in-Some
returns-in-Some c =
    λ not. timed-refused (map arc_value c.args.plans.now) c.args.times.now c.args.bytes.now c.in_ok-states.states c.in-Some.refused c.in_ok-states.ensures.exact
    (c.in-Some.ensures ∙ ap (other_time c.args.times.now) c.as_slice.ensures)
