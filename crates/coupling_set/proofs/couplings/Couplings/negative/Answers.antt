-- The word that is read is the bond's.
use Rattle.std.proofs.Common.{◌<◌, get_or, length, ap, sym, ◌∙◌}
use Rattle.std.proofs.lemmas.List.{get_or_default}
use Rattle.spin_model.specs.Lattice.{volume}
use Rattle.coupling_set.specs.CouplingWords.{CouplingsView, bond_word}
use Rattle.coupling_set.proofs.KeptPlaces.{kept-word}
use Rattle.coupling_set.proofs.couplings.Couplings.negative.Goals as goal

pub returns : goal.returns
returns c =
    let l = c.self.inside.lattice in
    let words = c.self.inside.words in
    let place = c.place.ensures in
    let site : c.args.site < volume l = rw (← c.self.view_is) at c.requires.site in
    let listed : c.place.result < length words = rw (c.self.invariant.sized) place.within in
    c.at.ensures ∙ get_or_default words c.place.result c.at.result.now 0 listed
    ∙ ap (λ k. get_or words k 0) place.value
    ∙ sym (kept-word l words c.args.site c.args.d place.lawful site c.requires.direction)
    ∙ ap (λ (v : CouplingsView). bond_word v c.args.site c.args.d) c.self.view_is
