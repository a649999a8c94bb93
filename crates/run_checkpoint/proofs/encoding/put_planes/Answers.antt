-- The next plane fits.
use Rattle.run_checkpoint.specs.PackedBytes.{packed_plane}
use Rattle.run_checkpoint.proofs.Pieces.{room-item}
use Rattle.run_checkpoint.proofs.encoding.put_planes.Goals as goal

pub put_plane-requires-clause-spare : goal.put_plane-requires-clause-spare
put_plane-requires-clause-spare c = room-item packed_plane c.args.planes.now c.planes.plane-index c.plane-item.result _ _ c.planes-test.true c.plane-item.is c.planes.invariant c.requires.spare
