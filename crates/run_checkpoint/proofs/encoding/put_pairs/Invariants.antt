use Rattle.std.proofs.Common.{take}
use Rattle.std.specs.List.{flat_map}
use Rattle.run_checkpoint.specs.PackedBytes.{packed_pair}
use Rattle.run_checkpoint.specs.Rooms.{Puts}
use Rattle.run_checkpoint.proofs.encoding.put_pairs.Given as goal

abbrev pub invariant-pairs : goal.invariant-pairs
invariant-pairs l = Puts l.fn.room l.room (flat_map packed_pair (take l.pair-index l.pairs))
