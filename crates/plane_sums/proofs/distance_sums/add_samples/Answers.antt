-- A sample more has its term.
use Rattle.std.proofs.Common.{ℕ, ◌+ℤ◌, length-set, ◌∙◌, w64, arith}
use Rattle.std.proofs.lemmas.Int.{to_z-of_z}
use Rattle.plane_sums.specs.Correlations.{signed_at}
use Rattle.plane_sums.proofs.Signed.{fits-64, samples-more, samples-kept}
use Rattle.plane_sums.proofs.distance_sums.add_samples.Goals as goal

pub plus-requires : goal.plus-requires
plus-requires c =
    let at = c.samples.b in
    let room = c.requires at (omega arith) in
    rw (
      c.samples.invariant.rest at (omega arith),
      to_z-of_z w64 (signed_at c.args.sums.now at) (fits-64 (signed_at c.args.sums.now at) (omega (arith, room))),
      to_z-of_z w64 (signed_at c.args.terms.now at) (fits-64 (signed_at c.args.terms.now at) (omega (arith, room))),
    ) room

pub samples-preserved : goal.samples-preserved
samples-preserved c =
    let known = c.samples.invariant in
    let now = c.samples.sums in
    let at = c.samples.b in
    let value = λ (k : ℕ). signed_at c.args.sums.now k +ℤ signed_at c.args.terms.now k in
    let room = c.requires at (omega arith) in
    let own = rw (
      known.rest at (omega arith),
      to_z-of_z w64 (signed_at c.args.sums.now at) (fits-64 (signed_at c.args.sums.now at) (omega (arith, room))),
      to_z-of_z w64 (signed_at c.args.terms.now at) (fits-64 (signed_at c.args.terms.now at) (omega (arith, room))),
    ) at c.plus.ensures in
    let kept = to_z-of_z w64 c.plus.result (record { sfits = c.plus.type_inv }) in
    record {
      long = length-set now at _ ∙ known.long;
      added = samples-more now at _ value (omega (arith, known.long)) known.added (kept ∙ own);
      rest = λ k past. samples-kept now at _ k past ∙ known.rest k (omega arith);
    }
