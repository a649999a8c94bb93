-- The terms below k are added, the other sums are as before.
use Rattle.std.proofs.Common.{◌≡◌, ℕ, ◌<◌, ◌≤◌, ◌+ℤ◌, length}
use Rattle.plane_sums.specs.Correlations.{signed_at}
use Rattle.plane_sums.proofs.moments.add_terms.Given as goal

abbrev pub invariant-terms : goal.invariant-terms
invariant-terms l = record {
  long : length l.sums ≡ 11;
  added : (k : ℕ) → k < l.k → signed_at l.sums k ≡ signed_at l.fn.sums k +ℤ signed_at l.terms k;
  rest : (k : ℕ) → l.k ≤ k → signed_at l.sums k ≡ signed_at l.fn.sums k;
}
