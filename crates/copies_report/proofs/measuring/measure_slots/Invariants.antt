-- The slots before t are measured.
use Rattle.std.proofs.Common.{◌≡◌, length}
use Rattle.copies_report.specs.Held.{HoldCopies}
use Rattle.copies_report.proofs.measuring.measure_slots.Given as goal

abbrev pub invariant-slots : goal.invariant-slots
invariant-slots l = record {
  long : length l.sums ≡ length l.fn.sums;
  held : HoldCopies l.lattice l.first.slots l.second.slots l.sums l.t;
}
