-- The planes below w are clear.
use Rattle.std.proofs.Common.{◌≡◌, ℕ, ◌<◌, [], length, get_or}
use Rattle.plane_sums.proofs.counts.Counts.clear.Given as goal

abbrev pub invariant-planes : goal.invariant-planes
invariant-planes g l = record {
  long : length l.self.planes ≡ g.row.W;
  done : (j k : ℕ) → j < l.w → k < l.places → get_or (get_or l.self.planes j []) k 0 ≡ 0;
}
