-- The directions so far are added.
use Rattle.std.proofs.Common.{◌≡◌, ℕ, ◌<◌}
use Rattle.spin_model.specs.SignedSums.{sum_of}
use Rattle.plane_sums.specs.Correlations.{signed_at}
use Rattle.plane_sweep.specs.Packed.{spins_of}
use Rattle.overlap_lines.specs.Overlaps.{line_sum}
use Rattle.quenched_sums.proofs.fields.write_distance.Given as goal

abbrev pub invariant-directions : goal.invariant-directions
invariant-directions l = (b : ℕ) → b < 64 → signed_at l.out b
    ≡ sum_of (λ d. line_sum l.lattice (spins_of l.lattice b l.duo.first.planes) (spins_of l.lattice b l.duo.second.planes) d l.distance) l.d
