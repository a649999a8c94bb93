-- The samples below b have their terms more, the others are as before.
use Rattle.std.proofs.Common.{◌≡◌, ℕ, ◌<◌, ◌≤◌, ◌+ℤ◌, length}
use Rattle.plane_sums.specs.Correlations.{signed_at}
use Rattle.plane_sums.proofs.distance_sums.add_samples.Given as goal

abbrev pub invariant-samples : goal.invariant-samples
invariant-samples l = record {
  long : length l.sums ≡ 64;
  added : (b : ℕ) → b < l.b → signed_at l.sums b ≡ signed_at l.fn.sums b +ℤ signed_at l.terms b;
  rest : (b : ℕ) → l.b ≤ b → signed_at l.sums b ≡ signed_at l.fn.sums b;
}
