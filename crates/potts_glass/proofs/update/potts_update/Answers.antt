-- One site is the only lane of its vectors.
use Rattle.std.proofs.Common.{◌≡◌, [], ◌∷◌, slice_index, slice_index_or, refl, ap, ◌∙◌, arith}
use Rattle.potts_glass.specs.Potts as model
use Rattle.potts_glass.specs.PackedColours.{colour_in, seen}
use Rattle.potts_glass.specs.SitesBeside.{bit_in, seen_in, site_in}
use Rattle.potts_glass.proofs.Sites.{each-of_six}
use Rattle.potts_glass.proofs.Sweeps.{AgreeAround, new_colour-same}
use Rattle.multispin_word.specs.Planes.{is_set}
use Rattle.potts_glass.proofs.update.potts_update.Goals as goal

pub returns : goal.returns
returns c = λ b h.
    let near = c.args.near.now in
    let negative = c.args.negative.now in
    let rows = c.alone.result ∷ c.alone-2.result ∷ c.alone-3.result ∷ c.alone-4.result ∷ c.alone-5.result ∷ c.alone-6.result ∷ [] in
    let bonds = (slice_index negative 0 ∷ []) ∷ (slice_index negative 1 ∷ []) ∷ (slice_index negative 2 ∷ []) ∷ (slice_index negative 3 ∷ []) ∷ (slice_index negative 4 ∷ []) ∷ (slice_index negative 5 ∷ []) ∷ [] in
    let alone = seen_in rows bonds 0 b in
    let sees = seen near negative b in
    let values = c.args.row.now.values in
    let step = c.args.step in
    let agree : AgreeAround alone sees = record {
      colours = each-of_six (λ k. colour_in (site_in (slice_index_or rows k []) 0) b ≡ colour_in (slice_index_or near k []) b)
          (c.alone.ensures b) (c.alone-2.ensures b) (c.alone-3.ensures b) (c.alone-4.ensures b) (c.alone-5.ensures b) (c.alone-6.ensures b);
      bonds = each-of_six (λ k. bit_in bonds k 0 b ≡ is_set (slice_index negative k) b) refl refl refl refl refl refl;
    } in
    c.update_sites.ensures 0 b step (omega arith) h c.requires (λ k l. (c.broadcast.ensures k l, c.broadcast-2.ensures k l))
    ∙ ap (model.new_colour values step c.args.draw alone) (c.alone-7.ensures b)
    ∙ new_colour-same values step c.args.draw alone sees (colour_in c.args.own b) agree
