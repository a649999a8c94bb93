-- The planes so far are added.
use Rattle.std.proofs.Common.{◌≡◌, ℕ, ◌<◌, [], get_or}
use Rattle.spin_model.specs.SignedSums.{sum_of}
use Rattle.plane_sums.specs.Correlations.{signed_at}
use Rattle.plane_sums.proofs.overlaps.sum_planes.Given as goal

abbrev pub invariant-planes : goal.invariant-planes
invariant-planes l = (b : ℕ) → b < 64 → signed_at l.out b ≡ sum_of (λ m. signed_at (get_or l.planes m []) b) l.m
