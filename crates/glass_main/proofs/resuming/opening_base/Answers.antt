use Rattle.std.proofs.Common.{arith}
use Rattle.glass_main.proofs.OpenedRuns.{opening-deep}
use Rattle.glass_main.proofs.resuming.opening_base.Goals as goal

pub returns-clause-resumable : goal.returns-clause-resumable
returns-clause-resumable c =
    let planned = c.args.planned.now in
    let some = c.slots.ensures.lawful.rules.some in
    let o = c.requires.orders in
    let deep = opening-deep planned.plan planned.orders.start c.in_ok-stand.stand c.in_ok-base.base some c.in_ok-stand.ensures.fits c.in_ok-stand.ensures.opening c.in_ok-base.ensures.level in
    record {
      some = some;
      fits = c.in_ok-base.ensures.fits planned.plan planned.orders.samples planned.orders.every c.in_ok-stand.ensures.fits o.some_samples o.few_samples o.some_every;
      reach = omega arith;
    }
