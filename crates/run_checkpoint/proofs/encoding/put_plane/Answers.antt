-- The spins fit behind the generator.
use Rattle.std.proofs.Common.{arith, length, ap}
use Rattle.run_checkpoint.specs.PackedBytes.{packed_plane}
use Rattle.run_checkpoint.proofs.Pieces.{room-left}
use Rattle.run_checkpoint.proofs.encoding.put_plane.Goals as goal
use Rattle.spin_model.specs.Words.{words_32, words_64}
use Rattle.spin_model.proofs.WordBytes.{length-words}

pub put_spins-requires-clause-room : goal.put_spins-requires-clause-room
unfolding packed_plane
put_spins-requires-clause-room c =
    let fits = room-left _ _ (words_32 c.args.plane.now.wheel) (words_64 c.args.plane.now.words) c.put_generator.ensures c.requires.spare in
    omega (arith, fits, length-words 8 c.args.plane.now.words, ap length c.as_slice.ensures)
