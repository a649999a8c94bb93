-- What contracts see of the memory of kept states.
use Rattle.kept_states.specs.Rooms.{SaveRoomView}
use Rattle.kept_states.specs.declared.save_room.SaveRoom.TheInside.{Inside}

abbrev pub save_view : Inside → SaveRoomView
save_view room = record { bytes = room.kept.bytes; spare = room.kept.spare; level = room.level.limit; slots = room.level.slots }
