use Rattle.std.proofs.Common.{take}
use Rattle.std.specs.List.{flat_map}
use Rattle.run_checkpoint.specs.PackedBytes.{packed_slot}
use Rattle.run_checkpoint.specs.Rooms.{Puts}
use Rattle.run_checkpoint.proofs.encoding.put_slots.Given as goal

abbrev pub invariant-slots : goal.invariant-slots
invariant-slots l = Puts l.fn.room l.room (flat_map packed_slot (take l.slot-index l.slots))
