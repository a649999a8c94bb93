-- The sites of the planes before q are counted.
use Rattle.std.proofs.Common.{◌≡◌, ℕ, ◌+◌, ◌*◌, ◌<◌, length}
use Rattle.bit_totals.specs.Tallies.{tallied}
use Rattle.plane_sweep.specs.Packed.{spins_of}
use Rattle.spin_model.specs.Lattice.{half_plane}
use Rattle.overlap_lines.specs.Counted.{line_from}
use Rattle.overlap_lines.proofs.counting.add_planes.Given as goal

abbrev pub invariant-planes : goal.invariant-planes
invariant-planes l = record {
  overlaps : length l.overlaps ≡ half_plane l.pairs.lattice.now;
  ahead : length l.ahead ≡ half_plane l.pairs.lattice.now;
  counted : (b : ℕ) → b < 64 → tallied l.tally.rows b ≡ tallied l.fn.tally.rows b
      + line_from l.pairs.lattice.now (spins_of l.pairs.lattice.now b l.pairs.first.now.planes) (spins_of l.pairs.lattice.now b l.pairs.second.now.planes) l.pairs.shift.direction l.pairs.shift.distance (l.q * half_plane l.pairs.lattice.now);
}
