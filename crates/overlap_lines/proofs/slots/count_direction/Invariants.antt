-- The lines over at most k steps are counted, and the counts before them are as they were.
use Rattle.std.proofs.Common.{◌≡◌, ℕ, ◌+◌, ◌*◌, ◌<◌, ◌≤◌, [], length, get_or}
use Rattle.multispin_word.specs.Planes.{number}
use Rattle.plane_sweep.specs.Packed.{spins_of}
use Rattle.overlap_lines.specs.Overlaps.{agreeing_line}
use Rattle.overlap_lines.proofs.slots.count_direction.Given as goal

abbrev pub invariant-distances : goal.invariant-distances
invariant-distances l = record {
  room : length l.counts ≡ length l.fn.counts;
  lines : (r b : ℕ) → 1 ≤ r → r ≤ l.k → b < 64
      → number (get_or l.counts (32 * l.d + r) []) b ≡ agreeing_line l.lattice (spins_of l.lattice b l.duo.first.planes) (spins_of l.lattice b l.duo.second.planes) l.d r;
  before : (m : ℕ) → m ≤ 32 * l.d → get_or l.counts m [] ≡ get_or l.fn.counts m [];
}
