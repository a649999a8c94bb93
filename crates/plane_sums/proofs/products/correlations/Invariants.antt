-- The distances below r are summed.
use Rattle.std.proofs.Common.{◌≡◌, ℕ, ◌+◌, ◌<◌, [], get_or, length}
use Rattle.spin_model.specs.SignedSums.{sum_of}
use Rattle.plane_sums.specs.Correlations.{product_sum, signed_at}
use Rattle.plane_sums.proofs.products.correlations.Given as goal

abbrev pub invariant-distances : goal.invariant-distances
invariant-distances l = record {
  axis_long : length l.axis ≡ 33;
  face_long : length l.face ≡ 33;
  axis_done : (r b : ℕ) → r < l.r → b < 64 → signed_at (get_or l.axis r []) b ≡ sum_of (λ k. product_sum l.size l.numbers (0 + k) r b) 3;
  face_done : (r b : ℕ) → r < l.r → b < 64 → signed_at (get_or l.face r []) b ≡ sum_of (λ k. product_sum l.size l.numbers (3 + k) r b) 6;
}
