-- As many slots as passes, with room for all times.
use Rattle.std.proofs.Common.{◌≡◌, length}
use Rattle.quench_report.specs.Held.{HasRoom}
use Rattle.quench_report.proofs.measuring.empty_slots.Given as goal

abbrev pub invariant-slots : goal.invariant-slots
invariant-slots l = record {
  long : length l.room.items ≡ l.made;
  has : HasRoom l.made l.times l.room.items;
}
