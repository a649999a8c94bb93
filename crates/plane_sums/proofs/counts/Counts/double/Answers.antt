-- All planes are doubled.
use Rattle.std.proofs.Common.{◌+◌, arith}
use Rattle.plane_sums.specs.Counts.{count_at}
use Rattle.plane_sums.proofs.PlaceNumbers.{places-same, twice-there}
use Rattle.plane_sums.proofs.counts.Counts.double.Goals as goal

pub returns : goal.returns
returns g c = λ k b h.
    let new = c.planes.self.planes in
    let old = c.args.self.now.planes in
    twice-there (λ i. count_at new i b) (λ i. count_at old i b) c.args.places
    (λ i below. places-same new old i i b (omega (arith, c.planes.invariant.long)) (λ w within. c.planes.invariant.first w i below))
    (λ i below. places-same new old (c.args.places + i) i b (omega (arith, c.planes.invariant.long)) (λ w within. c.planes.invariant.second w i (omega (arith, c.planes.invariant.long)) below))
    k h
