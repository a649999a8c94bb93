-- The words of the planes below w.
use Rattle.std.proofs.Common.{◌≡◌, ℕ, ◌<◌, [], length, get_or}
use Rattle.plane_sums.proofs.counts.Counts.number.Given as goal

abbrev pub invariant-planes : goal.invariant-planes
invariant-planes g l = record {
  long : length l.words ≡ g.row.W;
  planes_long : length l.self.planes ≡ g.row.W;
  done : (j : ℕ) → j < l.w → get_or l.words j 0 ≡ get_or (get_or l.self.planes j []) l.place 0;
}
