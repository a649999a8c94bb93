-- The first places are as before, and those below k stand behind them once more.
use Rattle.std.proofs.Common.{◌≡◌, ℕ, ◌+◌, ◌<◌, length, get_or}
use Rattle.plane_sums.proofs.counts.double_plane.Given as goal

abbrev pub invariant-places : goal.invariant-places
invariant-places l = record {
  long : length l.own ≡ 128;
  kept : (k : ℕ) → k < l.places → get_or l.own k 0 ≡ get_or l.fn.own k 0;
  done : (k : ℕ) → k < l.k → get_or l.own (l.places + k) 0 ≡ get_or l.fn.own k 0;
}
