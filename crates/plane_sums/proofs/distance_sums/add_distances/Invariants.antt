-- The distances below r have their terms more, the others are as before.
use Rattle.std.proofs.Common.{◌≡◌, ℕ, ◌<◌, ◌≤◌, ◌+ℤ◌, [], get_or, length}
use Rattle.plane_sums.specs.Correlations.{signed_at}
use Rattle.plane_sums.proofs.distance_sums.add_distances.Given as goal

abbrev pub invariant-distances : goal.invariant-distances
invariant-distances l = record {
  long : length l.sums ≡ 33;
  added : (r b : ℕ) → r < l.r → b < 64 → signed_at (get_or l.sums r []) b ≡ signed_at (get_or l.fn.sums r []) b +ℤ signed_at (get_or l.terms r []) b;
  rest : (r : ℕ) → l.r ≤ r → get_or l.sums r [] ≡ get_or l.fn.sums r [];
}
