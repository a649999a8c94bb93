-- The pieces are those of the record.
use Rattle.std.proofs.Common.{ap}
use Rattle.std.specs.Int.{w32}
use Rattle.std.proofs.lemmas.Int.{to_z-of_z}
use Rattle.run_checkpoint.proofs.Pieces.{puts-both, puts-same}
use Rattle.run_checkpoint.proofs.encoding.put_record.Goals as goal
use Rattle.run_checkpoint.specs.Kinds.{record_bytes, signed_bytes}

pub returns : goal.returns
unfolding record_bytes
returns c =
    puts-both _ _ _ _ _ (puts-same _ _ _ (signed_bytes c.args.kept.now.first_energy) (ap signed_bytes (to_z-of_z w32 c.args.kept.now.first_energy c.requires.fits.first_energy)) c.put_i32.ensures)
    (puts-both _ _ _ _ _ (puts-same _ _ _ (signed_bytes c.args.kept.now.second_energy) (ap signed_bytes (to_z-of_z w32 c.args.kept.now.second_energy c.requires.fits.second_energy)) c.put_i32-2.ensures)
    (puts-both _ _ _ _ _ (puts-same _ _ _ (signed_bytes c.args.kept.now.overlap) (ap signed_bytes (to_z-of_z w32 c.args.kept.now.overlap c.requires.fits.overlap)) c.put_i32-3.ensures) c.put.ensures))
