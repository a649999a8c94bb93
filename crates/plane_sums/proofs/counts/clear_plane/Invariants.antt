-- The places below k are 0.
use Rattle.std.proofs.Common.{◌≡◌, ℕ, ◌<◌, length, get_or}
use Rattle.plane_sums.proofs.counts.clear_plane.Given as goal

abbrev pub invariant-places : goal.invariant-places
invariant-places l = record {
  long : length l.own ≡ 128;
  done : (k : ℕ) → k < l.k → get_or l.own k 0 ≡ 0;
}
