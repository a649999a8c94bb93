-- The samples below b have the plane's sum more, the others are as before.
use Rattle.std.proofs.Common.{◌≡◌, ℕ, ◌<◌, ◌≤◌, ◌+ℤ◌, length}
use Rattle.plane_sums.specs.Correlations.{signed_at}
use Rattle.plane_sums.proofs.overlaps.add_plane.Given as goal

abbrev pub invariant-samples : goal.invariant-samples
invariant-samples l = record {
  long : length l.out ≡ 64;
  added : (b : ℕ) → b < l.b → signed_at l.out b ≡ signed_at l.fn.out b +ℤ signed_at l.plane b;
  rest : (b : ℕ) → l.b ≤ b → signed_at l.out b ≡ signed_at l.fn.out b;
}
