-- The distances so far are written.
use Rattle.std.proofs.Common.{◌≡◌, ℕ, ◌+◌, ◌<◌, [], length, get_or}
use Rattle.measured_sums.specs.OverlapField.{distance_correlation, site_overlap}
use Rattle.plane_sums.specs.Correlations.{signed_at}
use Rattle.plane_sweep.specs.Packed.{spins_of}
use Rattle.quenched_sums.proofs.state.write_distances.Given as goal

abbrev pub invariant-distances : goal.invariant-distances
invariant-distances l = record {
  long : length l.out ≡ 32;
  written : (k b : ℕ) → k < l.k → b < 64 → signed_at (get_or l.out k []) b
      ≡ distance_correlation l.lattice (site_overlap (spins_of l.lattice b l.duo.first.planes) (spins_of l.lattice b l.duo.second.planes)) (k + 1);
}
