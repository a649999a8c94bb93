-- The states of several banks.
use Rattle.std.specs.Arc.{arc_value}
use Rattle.std.proofs.Common.{◌≡◌, ◌≤◌, List, map, length, Ok, ap, subst, sym, ◌∙◌, arith}
use Rattle.std.proofs.lemmas.List.{length-map}
use Rattle.std.proofs.lemmas.Result.{err_from_is_err_and}
use Rattle.glass_edges.specs.Refusals.{GivesAfterTests}
use Rattle.kept_states.specs.Levels.{IsLevelCheckpoint}
use Rattle.kept_states.proofs.LevelClauses.{gives-same, only-one, several-given, several-read}
use Rattle.kept_states.proofs.Levels.{many-checkpoint}
use Rattle.plane_sweep.specs.declared.stand.Stand.{Stand}
use Rattle.run_checkpoint.specs.declared.refused.CheckpointRefused.TheVariants as checkpoint
use Rattle.kept_states.proofs.level_reading.decode_level.Goals as goal

pub returns-in_err-stands-clause-exact : goal.returns-in_err-stands-clause-exact
returns-in_err-stands-clause-exact c =
    let p = err_from_is_err_and c.from_residual.result c.from_residual.ensures.1 in
    let plans = map arc_value c.args.plans.now in
    let not : ¬ (length plans ≡ 1) = λ one. c.if-plans-eq1.false (sym (length-map c.args.plans.now arc_value) ∙ one) in
    gives-same checkpoint.NoMemory (λ (s : List Stand). s) c.from_residual.result p.0 c.in_err-stands.field-0.0 _ p.1 p.2
    (several-given plans c.args.until c.args.bytes.now c.in_err-stands.field-0.0 not c.in_err-stands.ensures.exact)

pub returns-in_ok-stands-clause-found : goal.returns-in_ok-stands-clause-found
returns-in_ok-stands-clause-found c =
    let plans = map arc_value c.args.plans.now in
    let not : ¬ (length plans ≡ 1) = λ one. c.if-plans-eq1.false (sym (length-map c.args.plans.now arc_value) ∙ one) in
    let some : 1 ≤ length plans = omega (arith, c.requires.some, length-map c.args.plans.now arc_value) in
    let C : List Stand → Type 0 = λ stands. IsLevelCheckpoint plans c.args.until c.args.bytes.now stands in
    subst C (sym c.of.ensures) (many-checkpoint plans c.args.until c.args.bytes.now c.in_ok-stands.stands.items some not c.in_ok-stands.ensures.found)

pub returns-in_ok-stands-clause-exact : goal.returns-in_ok-stands-clause-exact
returns-in_ok-stands-clause-exact c =
    let plans = map arc_value c.args.plans.now in
    let not : ¬ (length plans ≡ 1) = λ one. c.if-plans-eq1.false (sym (length-map c.args.plans.now arc_value) ∙ one) in
    sym (several-read plans c.args.until c.args.bytes.now not) ∙ c.in_ok-stands.ensures.exact ∙ ap (λ (s : List Stand). Ok s) (sym c.of.ensures)
