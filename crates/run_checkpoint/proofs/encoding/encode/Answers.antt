-- The pieces are those of the encoding.
use Rattle.std.proofs.Common.{◌++◌, ◌∙◌, arith, length, List, ℕ, sym, ap}
use Rattle.std.specs.List.{flat_map}
use Rattle.run_checkpoint.specs.Kinds.{record_bytes}
use Rattle.run_checkpoint.specs.Encoding.{standing_of}
use Rattle.run_checkpoint.proofs.PackedParts.{packed_bank}
use Rattle.run_checkpoint.proofs.Forms.{length-sealed}
use Rattle.run_checkpoint.proofs.PartLengths.{slots-short}
use Rattle.run_checkpoint.proofs.Pieces.{puts-both, puts-sealed, puts-same}
use Rattle.run_checkpoint.proofs.UnevenForm.{few-records, kind-fits, kind-packed, kind-kept, kind-body, kind-long, kind-room}
use Rattle.run_checkpoint.proofs.UnevenParts.{length-records}
use Rattle.run_checkpoint.proofs.encoding.encode.Goals as goal

pub put_header-requires-clause-some : goal.put_header-requires-clause-some
put_header-requires-clause-some c = omega (arith, (kind-fits _ _ _ c.requires.fits).fits.places, c.lattice.ensures.lawful.rules.some)

pub put_header-requires-clause-few : goal.put_header-requires-clause-few
put_header-requires-clause-few c = let f = kind-fits _ _ _ c.requires.fits in few-records _ f.samples f.every _ c.lattice.ensures.lawful f.fits

pub put_header-requires-clause-spare : goal.put_header-requires-clause-spare
put_header-requires-clause-spare c = omega (arith, (kind-fits _ _ _ c.requires.fits).fits.places, kind-room _ _ _ c.requires.fits, c.requires.spare)

pub put_contents-requires-clause-planes : goal.put_contents-requires-clause-planes
put_contents-requires-clause-planes c = slots-short _ _ c.lattice.ensures.lawful.size.1 (kind-fits _ _ _ c.requires.fits).fits.each_slot

pub put_contents-requires-clause-spare : goal.put_contents-requires-clause-spare
put_contents-requires-clause-spare c = omega (arith, c.requires.spare, kind-long _ _ _ c.requires.fits, c.put_header.ensures.spare)

pub put_records-requires-clause-fit : goal.put_records-requires-clause-fit
put_records-requires-clause-fit c = rw (c.as_slice.ensures) ((kind-fits _ _ _ c.requires.fits).fits.each_pending)

pub put_records-requires-clause-spare : goal.put_records-requires-clause-spare
put_records-requires-clause-spare c = omega (arith, c.requires.spare, kind-long _ _ _ c.requires.fits, c.put_header.ensures.spare, c.put_contents.ensures.spare, ap length c.as_slice.ensures)

pub seal-requires-clause-room : goal.seal-requires-clause-room
seal-requires-clause-room c =
    let records = length-records c.as_slice.result.now in
    omega (arith, c.requires.spare, kind-long _ _ _ c.requires.fits, c.put_header.ensures.spare, c.put_contents.ensures.spare, c.put_records.ensures.spare, records, ap length c.as_slice.ensures)

pub returns : goal.returns
returns c =
    let body = packed_bank c.args.plan.now (standing_of c.args.kind.now c.args.stand.now) c.args.stand.now.slots c.args.stand.now.pairs in
    let records = puts-same _ _ _ _ (ap (flat_map record_bytes) c.as_slice.ensures ∙ kind-kept _ _ _ c.requires.fits) c.put_records.ensures in
    let puts = puts-sealed c.args.room.now _ _ body _ (search arith) (puts-both _ _ _ _ _ c.put_header.ensures (puts-both _ _ _ _ _ c.put_contents.ensures records)) c.seal.ensures in
    record {
      bytes = puts.bytes ∙ ap (λ (x : List ℕ). c.args.room.now.bytes ++ x) (sym (kind-packed _ _ _ c.lattice.ensures.lawful c.requires.fits));
      spare = omega (arith, puts.spare, length-sealed body, kind-body _ _ _ c.requires.fits);
    }
