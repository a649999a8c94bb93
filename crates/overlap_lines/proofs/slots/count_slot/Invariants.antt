-- The bonds and the directions before d are counted.
use Rattle.std.proofs.Common.{◌≡◌, ℕ, ◌+◌, ◌*◌, ◌/◌, ◌<◌, ◌≤◌, [], length, get_or}
use Rattle.multispin_word.specs.Planes.{number}
use Rattle.plane_sweep.specs.Packed.{spins_of}
use Rattle.overlap_lines.specs.Overlaps.{agreeing_bonds, agreeing_line}
use Rattle.overlap_lines.proofs.slots.count_slot.Given as goal

abbrev pub invariant-directions : goal.invariant-directions
invariant-directions l = record {
  room : length l.counts ≡ length l.fn.counts;
  bonds : (b : ℕ) → b < 64 → number (get_or l.counts 0 []) b ≡ agreeing_bonds l.lattice (spins_of l.lattice b l.duo.first.planes) (spins_of l.lattice b l.duo.second.planes);
  lines : (d r b : ℕ) → d < l.d → 1 ≤ r → r ≤ l.lattice / 2 → b < 64
      → number (get_or l.counts (32 * d + r) []) b ≡ agreeing_line l.lattice (spins_of l.lattice b l.duo.first.planes) (spins_of l.lattice b l.duo.second.planes) d r;
}
