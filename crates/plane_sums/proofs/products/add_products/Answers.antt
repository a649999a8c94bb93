-- A sample more has its product.
use Rattle.std.proofs.Common.{ℕ, ◌+ℤ◌, ◌*ℤ◌, length-set, ◌∙◌, w16, w32, arith}
use Rattle.std.proofs.lemmas.Int.{to_z-of_z}
use Rattle.plane_sums.specs.Correlations.{signed_at}
use Rattle.plane_sums.proofs.Signed.{fits-16, fits-32, samples-more, samples-kept}
use Rattle.plane_sums.proofs.products.add_products.Goals as goal

pub samples-preserved : goal.samples-preserved
samples-preserved c =
    let known = c.samples.invariant in
    let now = c.samples.sums in
    let at = c.samples.b in
    let first = c.args.first.now in
    let second = c.args.second.now in
    let value = λ (b : ℕ). signed_at c.args.sums.now b +ℤ signed_at first b *ℤ signed_at second b in
    let same = known.rest at (omega arith) in
    let own = rw (
      same,
      to_z-of_z w32 (signed_at c.args.sums.now at) (fits-32 (signed_at c.args.sums.now at) (omega (arith, c.requires.room at (omega arith)))),
      to_z-of_z w16 (signed_at first at) (fits-16 (signed_at first at) (c.requires.first at (omega arith))),
      to_z-of_z w16 (signed_at second at) (fits-16 (signed_at second at) (c.requires.second at (omega arith))),
    ) at c.plus_product.ensures in
    let kept = to_z-of_z w32 c.plus_product.result (record { sfits = c.plus_product.type_inv }) in
    record {
      long = length-set now at _ ∙ known.long;
      added = samples-more now at _ value (omega (arith, known.long)) known.added (kept ∙ own);
      rest = λ b past. samples-kept now at _ b past ∙ known.rest b (omega arith);
    }
