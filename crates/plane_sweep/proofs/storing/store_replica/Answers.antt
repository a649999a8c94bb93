use Rattle.std.proofs.Common.{refl}
use Rattle.plane_sweep.proofs.StoredSamples.{stores-replica}
use Rattle.plane_sweep.proofs.storing.store_replica.Goals as goal

pub returns : goal.returns
returns c =
    stores-replica c.args.lattice.now c.args.sample c.args.part.now c.args.replica.now c.store_planes.new.planes _
    c.store_planes.ensures.lawful c.requires.sample c.requires.replica c.requires.part c.store_planes.ensures.stored refl
