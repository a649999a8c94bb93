-- The bytes of the piece that were passed stand behind the taken ones.
use Rattle.std.proofs.Common.{◌≡◌, ◌++◌, take}
use Rattle.glass_edges.specs.TakenBytes.{bytes_of}
use Rattle.glass_edges.proofs.taken_bytes.with_piece.Given as goal

abbrev pub invariant-bytes : goal.invariant-bytes
invariant-bytes l = bytes_of l.taken.value ≡ bytes_of l.fn.taken.value ++ take l.byte-index l.piece
