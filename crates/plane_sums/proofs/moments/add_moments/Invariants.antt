-- The samples below b have their terms more, the others are as before.
use Rattle.std.proofs.Common.{◌≡◌, ℕ, ◌<◌, ◌≤◌, ◌+ℤ◌, [], get_or, length}
use Rattle.plane_sums.specs.Correlations.{signed_at}
use Rattle.plane_sums.specs.Measured.{terms_of}
use Rattle.plane_sums.proofs.moments.add_moments.Given as goal

abbrev pub invariant-samples : goal.invariant-samples
invariant-samples l = record {
  long : length l.sums ≡ 64;
  added : (b k : ℕ) → b < l.b → k < 11 → signed_at (get_or l.sums b []) k ≡ signed_at (get_or l.fn.sums b []) k +ℤ signed_at (terms_of l.seen b) k;
  rest : (b : ℕ) → l.b ≤ b → get_or l.sums b [] ≡ get_or l.fn.sums b [];
}
