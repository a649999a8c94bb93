-- The bonds are the pairs of sites one step apart, at most 786432 in three directions.
use Rattle.std.proofs.Common.{◌≡◌, ◌+◌, arith}
use Rattle.plane_sweep.specs.Packed.{spins_of}
use Rattle.spin_model.proofs.Sites.{volume-bound}
use Rattle.bit_totals.specs.Tallies.{tallied}
use Rattle.overlap_lines.specs.Overlaps.{agreeing_line}
use Rattle.overlap_lines.proofs.LineCounts.{bonds-are-lines, sites-le}
use Rattle.overlap_lines.proofs.counting.agreeing_bonds_between.Goals as goal

pub add_line-requires-2-clause-room : goal.add_line-requires-2-clause-room
add_line-requires-2-clause-room c = λ b h.
    let l = c.args.lattice in
    let f = spins_of l b c.args.first.now.planes in
    let s = spins_of l b c.args.second.now.planes in
    let x = sites-le l f s c.along.result.direction c.along.result.distance in
    omega (arith, c.none-tally.ensures b, c.add_line.ensures b h, x, volume-bound l c.sites.ensures.lawful)

pub add_line-requires-3-clause-room : goal.add_line-requires-3-clause-room
add_line-requires-3-clause-room c = λ b h.
    let l = c.args.lattice in
    let f = spins_of l b c.args.first.now.planes in
    let s = spins_of l b c.args.second.now.planes in
    let x = sites-le l f s c.along.result.direction c.along.result.distance in
    let y = sites-le l f s c.along-2.result.direction c.along-2.result.distance in
    omega (arith, c.none-tally.ensures b, c.add_line.ensures b h, c.add_line-2.ensures b h, x, y, volume-bound l c.sites.ensures.lawful)

pub total-requires : goal.total-requires
total-requires c = λ b h.
    let l = c.args.lattice in
    let f = spins_of l b c.args.first.now.planes in
    let s = spins_of l b c.args.second.now.planes in
    let x = sites-le l f s c.along.result.direction c.along.result.distance in
    let y = sites-le l f s c.along-2.result.direction c.along-2.result.distance in
    let z = sites-le l f s c.along-3.result.direction c.along-3.result.distance in
    omega (arith, c.none-tally.ensures b, c.add_line.ensures b h, c.add_line-2.ensures b h, c.add_line-3.ensures b h, x, y, z, volume-bound l c.sites.ensures.lawful)

pub returns-clause-value : goal.returns-clause-value
returns-clause-value c = λ b h.
    let l = c.args.lattice in
    let f = spins_of l b c.args.first.now.planes in
    let s = spins_of l b c.args.second.now.planes in
    let x : tallied c.add_line.new.tally.rows b ≡ tallied c.none-tally.result.rows b + agreeing_line l f s 0 1
    = rw (c.along.ensures.direction, c.along.ensures.distance) at (c.add_line.ensures b h) in
    let y : tallied c.add_line-2.new.tally.rows b ≡ tallied c.add_line.new.tally.rows b + agreeing_line l f s 1 1
    = rw (c.along-2.ensures.direction, c.along-2.ensures.distance) at (c.add_line-2.ensures b h) in
    let z : tallied c.add_line-3.new.tally.rows b ≡ tallied c.add_line-2.new.tally.rows b + agreeing_line l f s 2 1
    = rw (c.along-3.ensures.direction, c.along-3.ensures.distance) at (c.add_line-3.ensures b h) in
    omega (arith, c.none-tally.ensures b, x, y, z, c.total.ensures b h, bonds-are-lines l f s)

pub returns-clause-within : goal.returns-clause-within
returns-clause-within c = λ b h.
    let l = c.args.lattice in
    let f = spins_of l b c.args.first.now.planes in
    let s = spins_of l b c.args.second.now.planes in
    let x = sites-le l f s c.along.result.direction c.along.result.distance in
    let y = sites-le l f s c.along-2.result.direction c.along-2.result.distance in
    let z = sites-le l f s c.along-3.result.direction c.along-3.result.distance in
    omega (arith, c.none-tally.ensures b, c.add_line.ensures b h, c.add_line-2.ensures b h, c.add_line-3.ensures b h, x, y, z, c.total.ensures b h)
