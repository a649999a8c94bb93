use Rattle.std.specs.Arc.{arc_value}
use Rattle.std.proofs.Common.{◌≡◌, ℕ, ◌+◌, ◌*◌, List, length, map, Ok, sym, ap, ◌∙◌, arith}
use Rattle.std.proofs.lemmas.Result.{err_from_is_err_and}
use Rattle.kept_states.specs.Steps.{states_decoded}
use Rattle.kept_states.proofs.ReadingSteps.{gives-err, state-room, none-read, next-read, next-refused, all-read}
use Rattle.plane_sweep.specs.declared.stand.Stand.{Stand}
use Rattle.quenched_states.specs.KeptTests.{state_bytes}
use Rattle.spin_model.specs.Steps.{table}
use Rattle.kept_states.proofs.kept_reading.read_states.Goals as goal

pub states-init : goal.states-init
states-init c = none-read (map arc_value c.args.plans.now) (table (state_bytes c.args.level c.args.bytes.now) c.kept_count-count.result) c.in_ok-states.states.items c.in_ok-states.ensures.items

pub state_bytes-requires : goal.state_bytes-requires
state_bytes-requires c = state-room c.args.level c.kept_count-count.result c.states.j _ c.states-test.true (c.requires.long ∙ ap (λ n. 44 + n * c.args.level) (sym c.kept_count-count.ensures))

pub returns-in_err-read_state-clause-exact : goal.returns-in_err-read_state-clause-exact
returns-in_err-read_state-clause-exact c =
    let plans = map arc_value c.args.plans.now in
    let item = state_bytes c.args.level c.args.bytes.now in
    let p = err_from_is_err_and c.from_residual-in_err-read_state.result c.from_residual-in_err-read_state.ensures.1 in
    gives-err c.from_residual-in_err-read_state.result p.0 c.in_err-read_state.field-0.0 _ p.1 p.2
    (λ not. sym (ap (λ n. states_decoded plans (table item n)) c.kept_count-count.ensures)
    ∙ next-refused plans item c.kept_count-count.result c.states.j c.state_bytes.result.now c.in_err-read_state.field-0.0 c.states.states.items c.states-test.true c.state_bytes.ensures.value
    (c.in_err-read_state.ensures not) c.states.invariant)

pub states-preserved : goal.states-preserved
states-preserved c =
    next-read (map arc_value c.args.plans.now) (state_bytes c.args.level c.args.bytes.now) c.kept_count-count.result c.states.j c.state_bytes.result.now c.in_ok-read_state.field-0
    c.states.states.items c.push.new.self.items c.states-test.true c.state_bytes.ensures.value c.in_ok-read_state.ensures c.in_ok-push.ensures.items c.states.invariant

pub returns-clause-exact : goal.returns-clause-exact
returns-clause-exact c =
    let plans = map arc_value c.args.plans.now in
    let item = state_bytes c.args.level c.args.bytes.now in
    sym (ap (λ n. states_decoded plans (table item n)) c.kept_count-count.ensures)
    ∙ all-read plans item c.kept_count-count.result c.states.j c.states.states.items c.states-test.false c.states.invariant
    ∙ ap (λ (s : List (List Stand)). Ok s) (sym c.of.ensures)

pub returns-clause-count : goal.returns-clause-count
returns-clause-count c = omega (arith, c.states.invariant.count, c.states-test.false, c.states.auto.j-end, c.kept_count-count.ensures, ap (λ (s : List (List Stand)). length s) c.of.ensures)
