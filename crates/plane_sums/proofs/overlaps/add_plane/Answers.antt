-- A sample more has its sum.
use Rattle.std.proofs.Common.{ℕ, ◌+ℤ◌, length-set, ◌∙◌, w16, w32, arith}
use Rattle.std.proofs.lemmas.Int.{to_z-of_z}
use Rattle.plane_sums.specs.Correlations.{signed_at}
use Rattle.plane_sums.proofs.Signed.{fits-16, fits-32, samples-more, samples-kept}
use Rattle.plane_sums.proofs.overlaps.add_plane.Goals as goal

pub samples-preserved : goal.samples-preserved
samples-preserved c =
    let known = c.samples.invariant in
    let now = c.samples.out in
    let at = c.samples.b in
    let old = c.args.out.now in
    let plane = c.args.plane.now in
    let value = λ (b : ℕ). signed_at old b +ℤ signed_at plane b in
    let same = known.rest at (omega arith) in
    let own = rw (
      same,
      to_z-of_z w32 (signed_at old at) (fits-32 (signed_at old at) (omega (arith, c.requires.out at (omega arith)))),
      to_z-of_z w16 (signed_at plane at) (fits-16 (signed_at plane at) (omega (arith, c.requires.plane at (omega arith)))),
    ) at c.plus.ensures in
    let kept = to_z-of_z w32 c.plus.result (record { sfits = c.plus.type_inv }) in
    record {
      long = length-set now at _ ∙ known.long;
      added = samples-more now at _ value (omega (arith, known.long)) known.added (kept ∙ own);
      rest = λ b past. samples-kept now at _ b past ∙ known.rest b (omega arith);
    }
