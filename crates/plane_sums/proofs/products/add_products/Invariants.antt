-- The samples below b have their products more, the others are as before.
use Rattle.std.proofs.Common.{◌≡◌, ℕ, ◌<◌, ◌≤◌, ◌+ℤ◌, ◌*ℤ◌, length}
use Rattle.plane_sums.specs.Correlations.{signed_at}
use Rattle.plane_sums.proofs.products.add_products.Given as goal

abbrev pub invariant-samples : goal.invariant-samples
invariant-samples l = record {
  long : length l.sums ≡ 64;
  added : (b : ℕ) → b < l.b → signed_at l.sums b ≡ signed_at l.fn.sums b +ℤ signed_at l.first b *ℤ signed_at l.second b;
  rest : (b : ℕ) → l.b ≤ b → signed_at l.sums b ≡ signed_at l.fn.sums b;
}
