use Rattle.std.proofs.Common.{◌≡◌, [], ◌∷◌, get_or, slice_index, slice_index_or, ap, ◌∙◌, arith}
use Rattle.std.proofs.lemmas.List.{get_or_default}
use Rattle.potts_glass.specs.PackedColours.{colour_in}
use Rattle.potts_glass.specs.SitesBeside.{site_in}
use Rattle.potts_glass.proofs.Sites.{each-of_four}
use Rattle.potts_glass.proofs.fours.words_of.Goals as goal

pub returns : goal.returns
returns c = λ i b lane.
    let sites = c.args.sites.now in
    let at = c.args.at.now in
    let low = get_or c.at.result.now 0 0 ∷ get_or c.at-2.result.now 0 0 ∷ get_or c.at-3.result.now 0 0 ∷ get_or c.at-4.result.now 0 0 ∷ [] in
    let high = get_or c.at.result.now 1 0 ∷ get_or c.at-2.result.now 1 0 ∷ get_or c.at-3.result.now 1 0 ∷ get_or c.at-4.result.now 1 0 ∷ [] in
    each-of_four (λ k. colour_in (site_in (low ∷ high ∷ []) k) b ≡ colour_in (slice_index_or sites (slice_index at k) []) b)
    (ap (λ s. colour_in s b) (c.at.ensures ∙ get_or_default sites (slice_index at 0) c.at.result.now [] (c.requires 0 (omega arith))))
    (ap (λ s. colour_in s b) (c.at-2.ensures ∙ get_or_default sites (slice_index at 1) c.at-2.result.now [] (c.requires 1 (omega arith))))
    (ap (λ s. colour_in s b) (c.at-3.ensures ∙ get_or_default sites (slice_index at 2) c.at-3.result.now [] (c.requires 2 (omega arith))))
    (ap (λ s. colour_in s b) (c.at-4.ensures ∙ get_or_default sites (slice_index at 3) c.at-4.result.now [] (c.requires 3 (omega arith))))
    i lane
