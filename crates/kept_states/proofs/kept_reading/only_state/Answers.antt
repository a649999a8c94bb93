use Rattle.std.specs.Arc.{arc_value}
use Rattle.std.proofs.Common.{◌≡◌, List, [], ◌∷◌, ◌++◌, map, Ok, sym, ap, ◌∙◌}
use Rattle.std.proofs.lemmas.Result.{err_from_is_err_and}
use Rattle.kept_states.proofs.ReadingSteps.{gives-err, one-state, one-refused}
use Rattle.plane_sweep.specs.declared.stand.Stand.{Stand}
use Rattle.kept_states.proofs.kept_reading.only_state.Goals as goal

pub returns-in_err-read_state-clause-exact : goal.returns-in_err-read_state-clause-exact
returns-in_err-read_state-clause-exact c =
    let p = err_from_is_err_and c.from_residual-in_err-read_state.result c.from_residual-in_err-read_state.ensures.1 in
    gives-err c.from_residual-in_err-read_state.result p.0 c.in_err-read_state.field-0.0 _ p.1 p.2
    (λ not. one-refused (map arc_value c.args.plans.now) c.args.bytes.now c.in_err-read_state.field-0.0 (c.in_err-read_state.ensures not))

pub returns-clause-exact : goal.returns-clause-exact
returns-clause-exact c =
    one-state (map arc_value c.args.plans.now) c.args.bytes.now c.in_ok-read_state.field-0 c.in_ok-read_state.ensures
    ∙ ap (λ (s : List (List Stand)). Ok s) (sym (c.of.ensures ∙ c.in_ok-push.ensures.items ∙ ap (λ (s : List (List Stand)). s ++ c.in_ok-read_state.field-0 ∷ []) c.in_ok-states.ensures.items))
