-- One position more.
use Rattle.std.proofs.Common.{arith}
use Rattle.plane_sweep.specs.Uneven.{position_of}
use Rattle.run_checkpoint.proofs.Pieces.{puts-more, puts-all, puts-same}
use Rattle.run_checkpoint.proofs.UnevenParts.{position-spare, mapped-positions}
use Rattle.run_checkpoint.proofs.encoding.put_positions.Goals as goal
use Rattle.run_checkpoint.specs.Kinds.{position_bytes}

pub places-preserved : goal.places-preserved
places-preserved c =
    let nine = position-spare _ _ _ c.put_position.ensures in
    record {
      puts = puts-more (λ p. position_bytes (position_of p)) c.args.places.now c.places.place-index _ _ _ _ c.places-test.true c.places.invariant.puts c.put_position.ensures;
      spare = omega (arith, c.places.invariant.spare, nine);
    }

pub returns : goal.returns
returns c = puts-same _ _ _ _ (mapped-positions c.args.places.now) (puts-all (λ p. position_bytes (position_of p)) c.args.places.now c.places.place-index _ _ c.places-test.false c.places.invariant.puts)
