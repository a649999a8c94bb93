-- The planes below w have the number's words at the place; elsewhere all are as before.
use Rattle.std.proofs.Common.{◌≡◌, ℕ, ◌<◌, ◌==◌, false, [], length, get_or}
use Rattle.plane_sums.proofs.counts.Counts.put.Given as goal

abbrev pub invariant-planes : goal.invariant-planes
invariant-planes g l = record {
  long : length l.self.planes ≡ g.row.W;
  numbers_long : length l.numbers ≡ g.row.W;
  own : (j : ℕ) → j < l.w → get_or (get_or l.self.planes j []) l.place 0 ≡ get_or l.numbers j 0;
  others : (j k : ℕ) → (k == l.place) ≡ false → get_or (get_or l.self.planes j []) k 0 ≡ get_or (get_or l.fn.self.planes j []) k 0;
}
