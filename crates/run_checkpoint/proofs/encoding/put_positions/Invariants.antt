use Rattle.std.proofs.Common.{take, ◌*◌, ◌+◌, ◌≡◌}
use Rattle.std.specs.List.{flat_map}
use Rattle.plane_sweep.specs.Uneven.{position_of}
use Rattle.run_checkpoint.specs.Kinds.{position_bytes}
use Rattle.run_checkpoint.specs.Rooms.{Puts}
use Rattle.run_checkpoint.proofs.encoding.put_positions.Given as goal

abbrev pub invariant-places : goal.invariant-places
invariant-places l = record {
  puts : Puts l.fn.room l.room (flat_map (λ p. position_bytes (position_of p)) (take l.place-index l.places));
  spare : l.room.spare + 9 * l.place-index ≡ l.fn.room.spare;
}
