-- The families so far are added.
use Rattle.std.proofs.Common.{◌≡◌, ℕ, ◌+◌, ◌-◌, ◌<◌}
use Rattle.spin_model.specs.SignedSums.{sum_of}
use Rattle.plane_sums.specs.Correlations.{product_sum, signed_at}
use Rattle.plane_sums.proofs.products.sum_distance.Given as goal

abbrev pub invariant-families : goal.invariant-families
invariant-families l = (b : ℕ) → b < 64 → signed_at l.out b ≡ sum_of (λ k. product_sum l.size l.numbers (l.from + k) l.r b) (l.family - l.from)
