use Rattle.std.proofs.Common.{take}
use Rattle.std.specs.List.{flat_map}
use Rattle.run_checkpoint.specs.PackedBytes.{packed_plane}
use Rattle.run_checkpoint.specs.Rooms.{Puts}
use Rattle.run_checkpoint.proofs.encoding.put_planes.Given as goal

abbrev pub invariant-planes : goal.invariant-planes
invariant-planes l = Puts l.fn.room l.room (flat_map packed_plane (take l.plane-index l.planes))
