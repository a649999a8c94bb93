use Rattle.std.proofs.Common.{sym, subst}
use Rattle.glass_main.proofs.Resumed.{base-resumes, base-refused, refusal-ends, encoded-reach}
use Rattle.glass_main.specs.Beginnings.{resumed_by}
use Rattle.glass_main.specs.Resumes.{Unresumed}
use Rattle.glass_main.specs.declared.ending.Ending.{Ending}
use Rattle.glass_main.proofs.resuming.decode.Goals as goal

pub returns-in-Ok-clause-read : goal.returns-in-Ok-clause-read
returns-in-Ok-clause-read c =
    base-resumes c.args.planned.now c.args.until c.args.bytes.now c.in-Ok.base c.slots.ensures.lawful.rules.some c.in-Ok.ensures.fits c.in-Ok.ensures.exact

pub returns-in-Ok-clause-resumable : goal.returns-in-Ok-clause-resumable
returns-in-Ok-clause-resumable c =
    let planned = c.args.planned.now in
    let some = c.slots.ensures.lawful.rules.some in
    record {
      some = some;
      fits = c.in-Ok.ensures.fits;
      reach = encoded-reach planned.plan planned.orders.samples planned.orders.every c.args.until c.args.bytes.now c.in-Ok.base some c.in-Ok.ensures.found;
    }

pub returns-in-Err-clause-read : goal.returns-in-Err-clause-read
returns-in-Err-clause-read c =
    let planned = c.args.planned.now in
    let U : Ending → Type 0 = λ e. Unresumed (resumed_by planned c.args.until c.args.bytes.now) e in
    subst U (sym c.ending_of.ensures) (refusal-ends (resumed_by planned c.args.until c.args.bytes.now) c.in-Err.refused
    (base-refused planned c.args.until c.args.bytes.now c.in-Err.refused c.in-Err.ensures.exact.1))
