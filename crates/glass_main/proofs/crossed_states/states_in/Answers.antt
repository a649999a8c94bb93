-- The only bank's state, or those of several banks.
use Rattle.std.proofs.Common.{◌≡◌, List, [], ◌∷◌, map, Result, Ok, Err, ap, subst, sym, ◌∙◌}
use Rattle.std.specs.Arc.{arc_value}
use Rattle.std.proofs.lemmas.Result.{err_from_is_err_and}
use Rattle.glass_edges.specs.Refusals.{GivesAfterTests}
use Rattle.plane_sweep.specs.declared.stand.Stand.{Stand}
use Rattle.run_checkpoint.specs.declared.refused.CheckpointRefused.{CheckpointRefused}
use Rattle.run_checkpoint.specs.declared.refused.CheckpointRefused.TheVariants as checkpoint
use Rattle.scalar_rule.specs.Plan.{Plan}
use Rattle.glass_main.specs.CrossRun.{alone, states_decoded}
use Rattle.glass_main.specs.CrossedPlans.{AreFitting}
use Rattle.glass_main.proofs.CrossedStates.{alone-gives, gives-none, gives-same, not-one, many-decoded, one-decoded, one-fits, only-plan}
use Rattle.glass_main.proofs.crossed_states.states_in.Goals as goal
use Rattle.glass_main.proofs.crossed_states.states_in.Goals.{After-decode}

-- the plans are one
only : (c : After-decode) → map arc_value c.args.plans.now ≡ c.deref.result.now ∷ []
only c =
    only-plan arc_value c.args.plans.now c.index-plans-0.result c.if-plans-eq1.true
    ∙ ap (λ (plan : Plan). plan ∷ []) (sym (c.deref.ensures ∙ ap arc_value c.index-plans-0.is))

read : (c : After-decode) → states_decoded (map arc_value c.args.plans.now) c.args.bytes.now ≡ states_decoded (c.deref.result.now ∷ []) c.args.bytes.now
read c = ap (λ (plans : List Plan). states_decoded plans c.args.bytes.now) (only c)

pub returns-in_err-stand-clause-exact : goal.returns-in_err-stand-clause-exact
returns-in_err-stand-clause-exact c =
    let at = (goal.at.returns-in_err-stand-clause-exact c).After-decode in
    let p = err_from_is_err_and c.from_residual.result c.from_residual.ensures.1 in
    gives-same c.from_residual.result p.0 c.in_err-stand.field-0.0 _ _ p.1 p.2 (read at ∙ one-decoded c.deref.result.now c.args.bytes.now)
    (alone-gives c.in_err-stand.field-0.0 _ c.in_err-stand.ensures.exact)

pub returns-in_err-alone-clause-exact : goal.returns-in_err-alone-clause-exact
returns-in_err-alone-clause-exact c =
    let at = (goal.at.returns-in_err-alone-clause-exact c).After-decode in
    let p = err_from_is_err_and c.from_residual-in_err-alone.result c.from_residual-in_err-alone.ensures.1 in
    let found = read at ∙ one-decoded c.deref.result.now c.args.bytes.now ∙ ap alone c.in_ok-stand.ensures.exact in
    gives-none c.from_residual-in_err-alone.result p.0 (c.in_ok-stand.stand ∷ []) _ p.1 p.2 found

pub returns-in_err-stands-clause-exact : goal.returns-in_err-stands-clause-exact
returns-in_err-stands-clause-exact c =
    let p = err_from_is_err_and c.from_residual-in_err-stands.result c.from_residual-in_err-stands.ensures.1 in
    gives-same c.from_residual-in_err-stands.result p.0 c.in_err-stands.field-0.0 _ _ p.1 p.2 (many-decoded (map arc_value c.args.plans.now) c.args.bytes.now (not-one arc_value c.args.plans.now c.if-plans-eq1.false))
    c.in_err-stands.ensures.exact

pub returns-in_ok-alone-clause-exact : goal.returns-in_ok-alone-clause-exact
returns-in_ok-alone-clause-exact c =
    let at = (goal.at.returns-in_ok-alone-clause-exact c).After-decode in
    read at ∙ one-decoded c.deref.result.now c.args.bytes.now ∙ ap alone c.in_ok-stand.ensures.exact ∙ ap (λ (s : List Stand). Ok s) (sym c.in_ok-alone.ensures)

pub returns-in_ok-alone-clause-fit : goal.returns-in_ok-alone-clause-fit
returns-in_ok-alone-clause-fit c =
    let at = (goal.at.returns-in_ok-alone-clause-fit c).After-decode in
    let F : List Plan → List Stand → Type 0 = λ plans states. AreFitting plans states in
    subst (λ (plans : List Plan). F plans c.in_ok-alone.field-0) (sym (only at))
    (subst (λ (states : List Stand). F (c.deref.result.now ∷ []) states) (sym c.in_ok-alone.ensures) (one-fits c.deref.result.now c.args.bytes.now c.in_ok-stand.stand c.in_ok-stand.ensures.found))

pub returns-in_ok-stands-clause-exact : goal.returns-in_ok-stands-clause-exact
returns-in_ok-stands-clause-exact c =
    many-decoded (map arc_value c.args.plans.now) c.args.bytes.now (not-one arc_value c.args.plans.now c.if-plans-eq1.false) ∙ c.in_ok-stands.ensures.exact
    ∙ ap (λ (s : List Stand). Ok s) (sym c.of.ensures)
