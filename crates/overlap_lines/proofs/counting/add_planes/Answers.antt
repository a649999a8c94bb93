-- No plane has no site, and the buffers have the words of any plane.
use Rattle.std.proofs.Common.{◌≡◌, ◌*◌, ap, ◌∙◌, arith}
use Rattle.std.proofs.Math.Nat.{zero-mul}
use Rattle.std.proofs.lemmas.List.{length-take-le}
use Rattle.plane_sweep.specs.Packed.{spins_of}
use Rattle.spin_model.specs.Lattice.{half_plane}
use Rattle.bit_totals.proofs.PlaceCounts.{plane-room, planes-within}
use Rattle.overlap_lines.specs.Counted.{line_from}
use Rattle.overlap_lines.proofs.LineCounts.{line-le, line-zero}
use Rattle.overlap_lines.proofs.counting.add_planes.Goals as goal

pub planes-init : goal.planes-init
planes-init c =
    let l = c.args.pairs.now.lattice.now in
    let d = c.args.pairs.now.shift.direction in
    let r = c.args.pairs.now.shift.distance in
    let lawful = c.size-size.ensures.lawful in
    let size : c.size-size.result ≡ l = c.size-size.ensures.value in
    let room = plane-room l lawful in
    record {
      overlaps = rw size (length-take-le (half_plane l) c.args.overlaps.now (omega (arith, room, c.requires.overlaps)));
      ahead = rw size (length-take-le (half_plane l) c.args.ahead.now (omega (arith, room, c.requires.ahead)));
      counted = λ b h.
          let f = spins_of l b c.args.pairs.now.first.now.planes in
          let s = spins_of l b c.args.pairs.now.second.now.planes in
          let none : 0 * half_plane l ≡ 0 = zero-mul (half_plane l) in
          let start = ap (line_from l f s d r) none ∙ line-zero l f s d r in
          omega (arith, start);
    }

pub add_plane-requires-clause-room : goal.add_plane-requires-clause-room
add_plane-requires-clause-room c = λ b h.
    let l = c.args.pairs.now.lattice.now in
    let q = c.planes.q in
    let lawful = c.size-size.ensures.lawful in
    let size : c.size-size.result ≡ l = c.size-size.ensures.value in
    let most = planes-within l q lawful (omega (arith, c.planes-test.true, size)) in
    let part = line-le l (spins_of l b c.args.pairs.now.first.now.planes) (spins_of l b c.args.pairs.now.second.now.planes) c.args.pairs.now.shift.direction c.args.pairs.now.shift.distance (q * half_plane l) in
    omega (arith, c.planes.invariant.counted b h, most, part, c.requires.room b h)

pub planes-preserved : goal.planes-preserved
planes-preserved c =
    record {
      overlaps = omega (arith, c.planes.invariant.overlaps, c.add_plane.auto.overlaps);
      ahead = omega (arith, c.planes.invariant.ahead, c.add_plane.auto.ahead);
      counted = λ b h. omega (arith, c.planes.invariant.counted b h, c.add_plane.ensures b h);
    }
