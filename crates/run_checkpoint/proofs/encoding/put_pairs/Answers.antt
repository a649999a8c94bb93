-- The next pair fits.
use Rattle.run_checkpoint.specs.PackedBytes.{packed_pair}
use Rattle.run_checkpoint.proofs.Pieces.{room-item}
use Rattle.run_checkpoint.proofs.encoding.put_pairs.Goals as goal

pub put_pair-requires : goal.put_pair-requires
put_pair-requires c = room-item packed_pair c.args.pairs.now c.pairs.pair-index c.pair-item.result _ _ c.pairs-test.true c.pair-item.is c.pairs.invariant c.requires
