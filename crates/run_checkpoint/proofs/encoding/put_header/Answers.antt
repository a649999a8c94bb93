-- The pieces are those of the header.
use Rattle.std.proofs.Common.{ap, length, map, arith}
use Rattle.std.specs.List.{flat_map}
use Rattle.byteorder.specs.Endian.{big_bytes}
use Rattle.plane_sweep.specs.Uneven.{position_of}
use Rattle.run_checkpoint.specs.Kinds.{header, position_bytes}
use Rattle.run_checkpoint.proofs.Pieces.{puts-both, puts-same}
use Rattle.run_checkpoint.proofs.encoding.put_header.Goals as goal

pub put_positions-requires : goal.put_positions-requires
put_positions-requires c =
    let front = c.put_shape-in-Uneven.ensures.spare in
    let rest = c.put_u32-in-Uneven.ensures.spare in
    omega (arith, c.requires.spare, c.put-in-Uneven.ensures.spare, c.put-in-Uneven-2.ensures.spare, front, c.put_u32.ensures.spare, c.put_u64-in-Uneven.ensures.spare, rest, ap length c.as_slice.ensures)

pub returns-in-Uneven : goal.returns-in-Uneven
unfolding header
returns-in-Uneven c =
    rw (c.in-Uneven.is)
    (puts-both _ _ _ _ _ c.put-in-Uneven.ensures
    (puts-both _ _ _ _ _ (puts-same _ _ _ _ c.digest-in-Uneven.ensures c.put-in-Uneven-2.ensures)
    (puts-both _ _ _ _ _ c.put_shape-in-Uneven.ensures.puts
    (puts-both _ _ _ _ _ c.put_u32.ensures
    (puts-both _ _ _ _ _ c.put_u64-in-Uneven.ensures
    (puts-both _ _ _ _ _ (puts-same _ _ _ _ (ap (big_bytes 4) c.len.ensures) c.put_u32-in-Uneven.ensures)
    (puts-same _ _ _ _ (ap (λ ps. flat_map position_bytes (map position_of ps)) c.as_slice.ensures) c.put_positions.ensures)))))))
