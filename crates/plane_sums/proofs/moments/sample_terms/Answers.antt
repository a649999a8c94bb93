-- The numbers of the sample fit.
use Rattle.std.proofs.Common.{w32, arith}
use Rattle.std.proofs.lemmas.Int.{to_z-of_z}
use Rattle.plane_sums.specs.Correlations.{signed_at}
use Rattle.plane_sums.proofs.Signed.{fits-32}
use Rattle.plane_sums.proofs.moments.sample_terms.Goals as goal

pub returns : goal.returns
returns c =
    let seen = c.args.seen.now in
    let small = c.requires.small in
    let b = c.args.b in
    let within = c.requires.sample in
    rw (
      to_z-of_z w32 (signed_at seen.first_energies b) (fits-32 (signed_at seen.first_energies b) (omega (arith, small.first b within))),
      to_z-of_z w32 (signed_at seen.second_energies b) (fits-32 (signed_at seen.second_energies b) (omega (arith, small.second b within))),
      to_z-of_z w32 (signed_at seen.field.links b) (fits-32 (signed_at seen.field.links b) (omega (arith, small.links b within))),
      to_z-of_z w32 (signed_at seen.field.overlaps b) (fits-32 (signed_at seen.field.overlaps b) (omega (arith, small.overlaps b within))),
    ) at c.terms.ensures
