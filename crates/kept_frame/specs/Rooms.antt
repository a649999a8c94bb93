-- A reserved buffer: the bytes that it has, and how many more fit.
use Rattle.std.specs.Prelude.{◌≡◌, ℕ, ◌+◌, ◌-◌, ◌++◌, List, length, vec_len}
use Rattle.kept_frame.specs.declared.room.KeptRoom.TheInside.{Inside}

pub record KeptRoomView : Type 0 where
  pub bytes : List ℕ
  pub spare : ℕ

abbrev pub room_view : Inside → KeptRoomView
room_view room = record { bytes = room.bytes.items; spare = room.limit - vec_len room.bytes }

-- a piece is put behind the bytes, and what fits is less by its length
pub record Puts (old new : KeptRoomView) (piece : List ℕ) : Type 0 where
  pub bytes : new.bytes ≡ old.bytes ++ piece
  pub spare : new.spare + length piece ≡ old.spare
