-- The only bank's state, as a list of one.
use Rattle.std.proofs.Common.{◌≡◌, List, [], ◌∷◌, Ok, ap, subst, sym, ◌∙◌}
use Rattle.std.proofs.lemmas.Result.{err_from_is_err_and}
use Rattle.kept_states.specs.Levels.{IsLevelCheckpoint}
use Rattle.kept_states.proofs.LevelClauses.{gives-same, gives-none, one-read, one-refused}
use Rattle.kept_states.proofs.Levels.{one-checkpoint}
use Rattle.plane_sweep.specs.declared.stand.Stand.{Stand}
use Rattle.run_checkpoint.specs.declared.refused.CheckpointRefused.TheVariants as checkpoint
use Rattle.kept_states.proofs.level_reading.decode_one.Goals as goal

pub returns-in_err-stand-clause-exact : goal.returns-in_err-stand-clause-exact
returns-in_err-stand-clause-exact c =
    let p = err_from_is_err_and c.from_residual.result c.from_residual.ensures.1 in
    gives-same checkpoint.NoMemory (λ (s : List Stand). s) c.from_residual.result p.0 c.in_err-stand.field-0.0 _ p.1 p.2
    (one-refused c.args.plan.now c.args.until c.args.bytes.now c.in_err-stand.field-0.0 c.in_err-stand.ensures.exact)

pub returns-in_err-alone-clause-exact : goal.returns-in_err-alone-clause-exact
returns-in_err-alone-clause-exact c =
    let p = err_from_is_err_and c.from_residual-in_err-alone.result c.from_residual-in_err-alone.ensures.1 in
    gives-none checkpoint.NoMemory (λ (s : List Stand). s) c.from_residual-in_err-alone.result p.0 (c.in_ok-stand.stand ∷ []) _ p.1 p.2
    (one-read c.args.plan.now c.args.until c.args.bytes.now c.in_ok-stand.stand c.in_ok-stand.ensures.exact)

pub returns-clause-found : goal.returns-clause-found
returns-clause-found c =
    let C : List Stand → Type 0 = λ stands. IsLevelCheckpoint (c.args.plan.now ∷ []) c.args.until c.args.bytes.now stands in
    subst C (sym c.in_ok-alone.ensures) (one-checkpoint c.args.plan.now c.args.until c.args.bytes.now c.in_ok-stand.stand c.in_ok-stand.ensures.found)

pub returns-clause-exact : goal.returns-clause-exact
returns-clause-exact c =
    one-read c.args.plan.now c.args.until c.args.bytes.now c.in_ok-stand.stand c.in_ok-stand.ensures.exact ∙ ap (λ (s : List Stand). Ok s) (sym c.in_ok-alone.ensures)
