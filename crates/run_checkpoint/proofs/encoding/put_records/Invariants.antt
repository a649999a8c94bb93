use Rattle.std.proofs.Common.{take, ◌*◌, ◌+◌, ◌≡◌}
use Rattle.std.specs.List.{flat_map}
use Rattle.run_checkpoint.specs.Kinds.{record_bytes}
use Rattle.run_checkpoint.specs.Rooms.{Puts}
use Rattle.run_checkpoint.proofs.encoding.put_records.Given as goal

abbrev pub invariant-records : goal.invariant-records
invariant-records l = record {
  puts : Puts l.fn.room l.room (flat_map record_bytes (take l.kept-index l.records));
  spare : l.room.spare + 14 * l.kept-index ≡ l.fn.room.spare;
}
