-- The packed update of a site is each sample's.
use Rattle.std.proofs.Common.{◌≡◌, [], get_or, set, ap, sym, ◌∙◌, arith}
use Rattle.std.proofs.lemmas.List.{get_or_default}
use Rattle.coupling_set.specs.CouplingWords.{bonds_of}
use Rattle.spin_model.specs.Lattice.{site_at}
use Rattle.potts_glass.specs.Potts.{around, neighbour, new_colour, step_of}
use Rattle.potts_glass.specs.PackedColours.{colour_in, colours_of, seen}
use Rattle.potts_glass.proofs.Sites.{colour-at, colours-written}
use Rattle.potts_glass.proofs.Sweeps.{AgreeAround, new_colour-same}
use Rattle.potts_glass.proofs.sweeping.update_site.Goals as goal

pub returns-clause-colours : goal.returns-clause-colours
returns-clause-colours c = λ b h.
    let l = c.args.sweep.now.lattice.now in
    let sites = c.args.sites.now in
    let i = site_at l c.args.at.0 c.args.at.1 c.args.at.2 in
    let site : c.site-site.result ≡ i = c.site-site.ensures.value in
    let inside = rw site at c.site-site.ensures.within in
    let colours = colours_of l sites b in
    let values = c.args.sweep.now.row.now.values in
    let v = c.args.second in
    let sees = seen c.near-near.result c.negative-negative.result b in
    let view = around l (bonds_of c.args.sweep.now.couplings.now b) colours i in
    let agree : AgreeAround sees view = record {
      colours = λ k below. ap (λ s. colour_in s b) (c.near-near.ensures.near k below) ∙ sym (colour-at l sites b (neighbour l i k) (c.near-near.ensures.within k below));
      bonds = λ k below. c.negative-negative.ensures b k below;
    } in
    let own : colour_in c.at-own.result.now b ≡ get_or colours i 0 =
    ap (λ s. colour_in s b) (c.at-own.ensures ∙ get_or_default sites c.site-site.result c.at-own.result.now [] (omega (arith, c.requires.sites, c.site-site.ensures.within)) ∙ ap (λ n. get_or sites n []) site)
    ∙ sym (colour-at l sites b i inside) in
    ap (λ n. colours_of l (set sites n c.potts_update.result) b) site ∙ colours-written l sites b i c.potts_update.result c.requires.sites inside
    ∙ ap (set colours i) (c.potts_update.ensures b h
    ∙ ap (λ s. new_colour values s v sees (colour_in c.at-own.result.now b)) c.step_of.ensures.value
    ∙ ap (new_colour values (step_of c.args.first) v sees) own
    ∙ new_colour-same values (step_of c.args.first) v sees view (get_or colours i 0) agree)
