use Rattle.std.proofs.Common.{◌<◌, [], get_or, ap, ◌∙◌, arith}
use Rattle.std.proofs.lemmas.List.{get_or_default}
use Rattle.spin_model.specs.Lattice.{volume, forward}
use Rattle.potts_glass.proofs.Sites.{equal-at}
use Rattle.potts_glass.proofs.energy.equal_ahead.Goals as goal

pub returns : goal.returns
returns c = λ b h.
    let l = c.args.lattice.now in
    let sites = c.args.sites.now in
    let i = c.args.site in
    let d = c.args.d in
    let within : forward l i d < volume l = rw c.forward.ensures.value at c.forward.ensures.within in
    let here = c.at-here.ensures ∙ get_or_default sites i c.at-here.result.now [] (omega (arith, c.requires.sites, c.requires.site)) in
    let there = c.at.ensures ∙ get_or_default sites c.forward.result c.at.result.now [] (omega (arith, c.requires.sites, c.forward.ensures.within)) ∙ ap (λ k. get_or sites k []) c.forward.ensures.value in
    c.same.ensures b h ∙ equal-at l sites b i d _ _ c.requires.site c.requires.direction within here there
