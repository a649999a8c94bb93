use Rattle.std.proofs.Common.{◌≡◌, length}
use Rattle.measured_run.proofs.opening.open_rooms.Given as goal

abbrev pub invariant-rooms : goal.invariant-rooms
invariant-rooms l = length l.rooms.items ≡ l.room
