-- The sites of the planes before q are counted.
use Rattle.std.proofs.Common.{◌≡◌, ℕ, ◌*◌, ◌<◌}
use Rattle.bit_totals.specs.Counted.{agreeing_from}
use Rattle.bit_totals.specs.Tallies.{tallied}
use Rattle.plane_sweep.specs.Packed.{spins_of, FitsReplica}
use Rattle.spin_model.specs.Lattice.{half_plane}
use Rattle.bit_totals.proofs.overlap.count_by.Given as goal

abbrev pub invariant-planes : goal.invariant-planes
invariant-planes l = (size s : ℕ) → FitsReplica size l.a → s < 64
    → tallied l.tally.rows s ≡ agreeing_from size (spins_of size s l.a.planes) (spins_of size s l.b.planes) (l.q * half_plane size)
