-- There are at most 262144 sites.
use Rattle.std.proofs.Common.{arith}
use Rattle.plane_sweep.specs.Packed.{spins_of}
use Rattle.spin_model.proofs.Sites.{volume-bound}
use Rattle.overlap_lines.proofs.LineCounts.{sites-le}
use Rattle.overlap_lines.proofs.counting.agreeing_line.Goals as goal

pub total-requires : goal.total-requires
total-requires c = λ b h.
    let l = c.args.lattice in
    let duo = c.args.duo.now in
    let most = sites-le l (spins_of l b duo.first.planes) (spins_of l b duo.second.planes) c.along.result.direction c.along.result.distance in
    omega (arith, c.none-tally.ensures b, c.add_line.ensures b h, most, volume-bound l c.sites.ensures.lawful)

pub returns-clause-within : goal.returns-clause-within
returns-clause-within c = λ b h.
    let l = c.args.lattice in
    let duo = c.args.duo.now in
    let most = sites-le l (spins_of l b duo.first.planes) (spins_of l b duo.second.planes) c.along.result.direction c.along.result.distance in
    omega (arith, c.none-tally.ensures b, c.add_line.ensures b h, most, c.total.ensures b h)
