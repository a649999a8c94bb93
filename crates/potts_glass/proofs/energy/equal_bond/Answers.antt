use Rattle.std.proofs.Common.{◌≡◌, ap, refl, sym, ◌∙◌}
use Rattle.multispin_word.specs.Planes.{is_set}
use Rattle.multispin_word.proofs.Bits.{is_set-and}
use Rattle.coupling_set.specs.CouplingWords.{bonds_of}
use Rattle.spin_model.specs.Lattice.{bond}
use Rattle.potts_glass.proofs.Sites.{bond-word}
use Rattle.potts_glass.proofs.energy.equal_bond.Goals as goal

pub returns-clause-raising : goal.returns-clause-raising
returns-clause-raising c = λ b h.
    let negative : is_set c.negative-negative.result b ≡ bonds_of c.args.couplings.now b (bond c.args.site c.args.d) =
    ap (λ w. is_set w b) c.negative-negative.ensures ∙ sym (bond-word c.args.couplings.now c.args.site c.args.d b c.requires.direction) in
    is_set-and c.negative-negative.result c.equal_ahead-equal.result b ∙ rw (c.equal_ahead-equal.ensures b h, negative) refl

pub returns-clause-lowering : goal.returns-clause-lowering
returns-clause-lowering c = λ b h.
    let negative : is_set c.negative-negative.result b ≡ bonds_of c.args.couplings.now b (bond c.args.site c.args.d) =
    ap (λ w. is_set w b) c.negative-negative.ensures ∙ sym (bond-word c.args.couplings.now c.args.site c.args.d b c.requires.direction) in
    is_set-and c.others.result c.equal_ahead-equal.result b ∙ rw (c.equal_ahead-equal.ensures b h, c.others.ensures b h, negative) refl
