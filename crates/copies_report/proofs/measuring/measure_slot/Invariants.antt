-- The pairs before p are measured, and the slots before this one are as they were.
use Rattle.std.proofs.Common.{◌≡◌, ℕ, ◌<◌, length}
use Rattle.copies_report.specs.Held.{held_at, HoldSlot}
use Rattle.copies_report.proofs.measuring.measure_slot.Given as goal

abbrev pub invariant-pairs : goal.invariant-pairs
invariant-pairs l = record {
  long : length l.sums ≡ length l.fn.sums;
  held : HoldSlot l.lattice l.copies.first.now l.copies.second.now l.sums l.slot l.p;
  before : (k m : ℕ) → k < l.slot → m < 6 → held_at l.sums k m ≡ held_at l.fn.sums k m;
}
