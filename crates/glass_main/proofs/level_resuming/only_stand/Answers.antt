use Rattle.std.proofs.Common.{refl, sym, subst, ap, ◌∙◌, [], ◌∷◌, List, Ok}
use Rattle.plane_sweep.specs.declared.stand.Stand.{Stand}
use Rattle.glass_main.specs.Resumes.{AreResumable}
use Rattle.glass_main.proofs.LevelStarts.{one-read, one-refused, one-resumable}
use Rattle.glass_main.proofs.level_resuming.only_stand.Goals as goal

pub returns-in-Ok-alone-clause-exact : goal.returns-in-Ok-alone-clause-exact
returns-in-Ok-alone-clause-exact c =
    one-read c.args.plan.now c.args.until c.args.bytes.now c.in-Ok.stand c.in-Ok.ensures.exact ∙ ap Ok (sym c.in-Ok-alone.ensures)

pub returns-in-Ok-alone-clause-resumable : goal.returns-in-Ok-alone-clause-resumable
returns-in-Ok-alone-clause-resumable c =
    let R : List Stand → Type 0 = λ xs. AreResumable (c.args.plan.now ∷ []) c.args.until xs in
    subst R (sym c.in-Ok-alone.ensures) (one-resumable c.args.plan.now c.args.until c.args.bytes.now c.in-Ok.stand c.in-Ok.ensures.found)

pub returns-in-Err-alone-clause-exact : goal.returns-in-Err-alone-clause-exact
returns-in-Err-alone-clause-exact c =
    ((λ memory. (c.in-Ok.stand ∷ [], one-read c.args.plan.now c.args.until c.args.bytes.now c.in-Ok.stand c.in-Ok.ensures.exact)), λ not. absurd (not refl))

pub returns-in-Err-clause-exact : goal.returns-in-Err-clause-exact
returns-in-Err-clause-exact c = one-refused c.args.plan.now c.args.until c.args.bytes.now c.in-Err.refused c.in-Err.ensures.exact
