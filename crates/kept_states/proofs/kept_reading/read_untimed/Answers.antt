-- The bytes are those of one state, or their frame is refused, or passes.
use Rattle.std.specs.Arc.{arc_value}
use Rattle.std.proofs.Common.{◌≡◌, ℕ, List, map, Result, sym, ap, subst, ◌∙◌}
use Rattle.glass_edges.specs.Refusals.{Gives}
use Rattle.kept_frame.specs.Told as frame
use Rattle.kept_states.specs.Steps.{states_decoded}
use Rattle.kept_states.specs.declared.refused.KeptStatesRefused.{KeptStatesRefused}
use Rattle.kept_states.specs.declared.refused.KeptStatesRefused.TheVariants as refused
use Rattle.kept_states.proofs.ReadingSteps.{untimed-one, untimed-refused, untimed-kept}
use Rattle.plane_sweep.specs.declared.stand.Stand.{Stand}
use Rattle.quenched_states.specs.KeptTests.{kept_count, state_bytes, frame_refusal}
use Rattle.spin_model.specs.Steps.{table}
use Rattle.kept_states.proofs.kept_reading.read_untimed.Goals as goal

pub returns-then-not-are_kept-clause-exact : goal.returns-then-not-are_kept-clause-exact
returns-then-not-are_kept-clause-exact c =
    let G : Result (List (List Stand)) KeptStatesRefused → Type 0 = λ read. Gives refused.NoMemory (λ (s : List (List Stand)). s) c.only_state.result read in
    subst G (untimed-one (map arc_value c.args.plans.now) c.args.most c.args.bytes.now (sym c.if-not-are_kept.ensures)) c.only_state.ensures.exact

pub returns-in-Some-clause-exact : goal.returns-in-Some-clause-exact
returns-in-Some-clause-exact c =
    λ not. untimed-refused (map arc_value c.args.plans.now) c.args.most c.args.bytes.now c.in-Some.refused (sym c.if-not-are_kept.ensures)
    (c.in-Some.ensures.value ∙ ap (λ len. frame_refusal frame.told len c.args.most c.args.bytes.now) c.level_length-level.ensures.value)

pub returns-clause-exact : goal.returns-clause-exact
returns-clause-exact c =
    let plans = map arc_value c.args.plans.now in
    let bytes = c.args.bytes.now in
    let G : Result (List (List Stand)) KeptStatesRefused → Type 0 = λ read. Gives refused.NoMemory (λ (s : List (List Stand)). s) c.read_states.result read in
    let none = c.in_default.ensures.value ∙ ap (λ len. frame_refusal frame.told len c.args.most bytes) c.level_length-level.ensures.value in
    subst G
    (ap (λ (len : ℕ). states_decoded plans (table (state_bytes len bytes) (kept_count bytes))) c.level_length-level.ensures.value ∙ untimed-kept plans c.args.most bytes (sym c.if-not-are_kept.ensures) none)
    c.read_states.ensures.exact
