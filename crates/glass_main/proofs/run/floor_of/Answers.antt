use Rattle.std.proofs.Common.{arith}
use Rattle.glass_main.proofs.OpenedRuns.{places-short, floor-upto}
use Rattle.glass_main.proofs.run.floor_of.Goals as goal

pub floor-requires-clause-short : goal.floor-requires-clause-short
floor-requires-clause-short c = λ t h. let e = places-short c.args.base.now c.args.until c.requires.base.reach t h in let most = c.requires.until in omega arith

pub returns-clause-within : goal.returns-clause-within
returns-clause-within c =
    let some = c.requires.base.some in
    let long = c.requires.base.fits.places in
    let low = floor-upto c.args.base.now c.args.until (omega arith) c.requires.base.reach in
    let is = c.floor.ensures in
    omega arith
