-- The next slot fits.
use Rattle.run_checkpoint.specs.PackedBytes.{packed_slot, HasShortPlanes}
use Rattle.run_checkpoint.proofs.Pieces.{room-item, all-item}
use Rattle.run_checkpoint.proofs.encoding.put_slots.Goals as goal

pub put_slot-requires-clause-planes : goal.put_slot-requires-clause-planes
put_slot-requires-clause-planes c = all-item HasShortPlanes c.args.slots.now c.slots.slot-index c.slot-item.result c.requires.planes c.slots-test.true c.slot-item.is

pub put_slot-requires-clause-spare : goal.put_slot-requires-clause-spare
put_slot-requires-clause-spare c = room-item packed_slot c.args.slots.now c.slots.slot-index c.slot-item.result _ _ c.slots-test.true c.slot-item.is c.slots.invariant c.requires.spare
