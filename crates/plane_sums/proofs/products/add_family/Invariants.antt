-- The products of the planes so far.
use Rattle.std.proofs.Common.{◌≡◌, ℕ, ◌+◌, ◌%◌, ◌<◌, ◌*ℤ◌, [], get_or}
use Rattle.spin_model.specs.SignedSums.{sum_of}
use Rattle.plane_sums.specs.Correlations.{signed_at}
use Rattle.plane_sums.proofs.products.add_family.Given as goal

abbrev pub invariant-planes : goal.invariant-planes
invariant-planes l = (b : ℕ) → b < 64
    → signed_at l.sums b ≡ sum_of (λ m. signed_at (get_or l.planes m []) b *ℤ signed_at (get_or l.planes ((m + l.r) % l.size) []) b) l.m
