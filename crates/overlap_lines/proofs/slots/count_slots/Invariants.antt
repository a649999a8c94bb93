-- The slots before t are counted.
use Rattle.std.proofs.Common.{◌≡◌, ℕ, ◌<◌, [], length, get_or}
use Rattle.plane_sweep.specs.declared.replica.Duo.{Duo}
use Rattle.overlap_lines.specs.CountedText.{AreCounts}
use Rattle.overlap_lines.proofs.slots.count_slots.Given as goal

abbrev pub invariant-slots : goal.invariant-slots
invariant-slots l = record {
  room : length l.counts ≡ length l.fn.counts;
  done : (t : ℕ) (duo : Duo) → t < l.t → AreCounts l.plan.size (get_or l.base.slots t duo) (get_or l.counts t []);
}
