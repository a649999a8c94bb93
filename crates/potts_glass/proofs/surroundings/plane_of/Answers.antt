-- The word at a site's place is that of the bond from it.
use Rattle.std.proofs.Common.{◌≡◌, ◌+◌, ◌*◌, ap, ◌∙◌}
use Rattle.coupling_set.specs.CouplingWords.{bond_word}
use Rattle.spin_model.specs.Lattice.{half_volume, half_plane, from_compact, place_in_plane}
use Rattle.spin_model.proofs.CompactOrder.{place_in_plane-below}
use Rattle.potts_glass.proofs.NeighbourPlaces.{site-by_place}
use Rattle.potts_glass.proofs.surroundings.plane_of.Goals as goal

pub returns : goal.returns
returns c = record {
  sized = c.plane.ensures.sized;
  words_at = λ j within class plane.
      let l = c.args.couplings.now.size in
      let lawful = rw c.requires.size at c.size.ensures.lawful in
      let site : from_compact l (c.args.class * half_volume l + c.args.z * half_plane l + place_in_plane l j) ≡ j =
      rw (← class, ← plane) (site-by_place l j lawful within) in
      c.plane.ensures.words (place_in_plane l j) (place_in_plane-below l j lawful) ∙ ap (λ n. bond_word c.args.couplings.now n c.args.d) site;
}
