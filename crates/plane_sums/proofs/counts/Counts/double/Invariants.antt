-- The planes below w are doubled, those from w on are as before.
use Rattle.std.proofs.Common.{◌≡◌, ℕ, ◌+◌, ◌<◌, [], length, get_or}
use Rattle.plane_sums.proofs.counts.Counts.double.Given as goal

abbrev pub invariant-planes : goal.invariant-planes
invariant-planes g l = record {
  long : length l.self.planes ≡ g.row.W;
  first : (j k : ℕ) → k < l.places → get_or (get_or l.self.planes j []) k 0 ≡ get_or (get_or l.fn.self.planes j []) k 0;
  second : (j k : ℕ) → j < l.w → k < l.places → get_or (get_or l.self.planes j []) (l.places + k) 0 ≡ get_or (get_or l.fn.self.planes j []) k 0;
}
