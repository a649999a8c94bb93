-- What contracts see of the memory of one state.
use Rattle.std.specs.Prelude.{◌+◌, length}
use Rattle.kept_states.specs.Rooms.{LevelRoomView}
use Rattle.kept_states.specs.declared.level_room.LevelRoom.TheInside.{Inside}

abbrev pub level_view : Inside → LevelRoomView
level_view room = record { bytes = room.bytes.bytes; limit = room.bytes.spare + length room.bytes.bytes; slots = length room.bank.places }
