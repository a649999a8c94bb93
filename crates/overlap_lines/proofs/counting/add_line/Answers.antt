-- The sites of all planes are all sites.
use Rattle.std.proofs.Common.{◌+◌, ◌∙◌, ap}
use Rattle.plane_sweep.specs.Packed.{spins_of}
use Rattle.bit_totals.specs.Tallies.{tallied}
use Rattle.overlap_lines.proofs.LineCounts.{all-sites}
use Rattle.overlap_lines.proofs.counting.add_line.Goals as goal

pub returns : goal.returns
returns c = λ b h.
    let l = c.args.lattice.now in
    let all = all-sites l (spins_of l b c.args.first.now.planes) (spins_of l b c.args.second.now.planes) c.args.shift.direction c.args.shift.distance c.add_planes.ensures.lawful in
    c.add_planes.ensures.counted b h ∙ ap (λ n. tallied c.args.tally.now.rows b + n) all
