-- A quantity more has its term.
use Rattle.std.specs.Int.{w128}
use Rattle.std.proofs.Common.{ℕ, ◌+ℤ◌, length-set, ◌∙◌, arith}
use Rattle.std.proofs.lemmas.Int.{to_z-of_z}
use Rattle.plane_sums.specs.Correlations.{signed_at}
use Rattle.plane_sums.proofs.Signed.{fits-128, samples-more, samples-kept}
use Rattle.plane_sums.proofs.moments.add_terms.Goals as goal

pub plus-requires : goal.plus-requires
plus-requires c =
    let at = c.terms.k in
    let room = c.requires at (omega arith) in
    rw (
      c.terms.invariant.rest at (omega arith),
      to_z-of_z w128 (signed_at c.args.sums.now at) (fits-128 (signed_at c.args.sums.now at) (omega (arith, room))),
      to_z-of_z w128 (signed_at c.args.terms.now at) (fits-128 (signed_at c.args.terms.now at) (omega (arith, room))),
    ) room

pub terms-preserved : goal.terms-preserved
terms-preserved c =
    let known = c.terms.invariant in
    let now = c.terms.sums in
    let at = c.terms.k in
    let value = λ (k : ℕ). signed_at c.args.sums.now k +ℤ signed_at c.args.terms.now k in
    let room = c.requires at (omega arith) in
    let own = rw (
      known.rest at (omega arith),
      to_z-of_z w128 (signed_at c.args.sums.now at) (fits-128 (signed_at c.args.sums.now at) (omega (arith, room))),
      to_z-of_z w128 (signed_at c.args.terms.now at) (fits-128 (signed_at c.args.terms.now at) (omega (arith, room))),
    ) at c.plus.ensures in
    let kept = to_z-of_z w128 c.plus.result (record { sfits = c.plus.type_inv }) in
    record {
      long = length-set now at _ ∙ known.long;
      added = samples-more now at _ value (omega (arith, known.long)) known.added (kept ∙ own);
      rest = λ k past. samples-kept now at _ k past ∙ known.rest k (omega arith);
    }
