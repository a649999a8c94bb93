use Rattle.std.proofs.Common.{◌*◌, ◌∙◌, sym, arith}
use Rattle.coupling_set.specs.CouplingWords.{bonds_of}
use Rattle.spin_model.proofs.Sites.{volume-bound}
use Rattle.potts_glass.specs.Potts.{is_raising, is_lowering}
use Rattle.potts_glass.specs.PackedColours.{colours_of}
use Rattle.spin_model.proofs.Counts.{count-most}
use Rattle.potts_glass.proofs.Sites.{count-site}
use Rattle.potts_glass.proofs.energy.count_site.Goals as goal

pub count_three-requires : goal.count_three-requires
count_three-requires c = λ b h.
    let l = c.args.lattice.now in
    omega (arith, c.requires.raising b h, volume-bound l c.requires.lawful, count-most (is_raising l (bonds_of c.args.couplings.now b) (colours_of l c.args.sites.now b)) (3 * c.args.site))

pub count_three-requires-2 : goal.count_three-requires-2
count_three-requires-2 c = λ b h.
    let l = c.args.lattice.now in
    omega (arith, c.requires.lowering b h, volume-bound l c.requires.lawful, count-most (is_lowering l (bonds_of c.args.couplings.now b) (colours_of l c.args.sites.now b)) (3 * c.args.site))

pub returns-clause-raising : goal.returns-clause-raising
returns-clause-raising c = λ b h.
    let l = c.args.lattice.now in
    c.count_three.ensures b h
    ∙ rw (c.requires.raising b h, c.equal_bond-x_raising.ensures.raising b h, c.equal_bond-y_raising.ensures.raising b h, c.equal_bond-z_raising.ensures.raising b h)
    (sym (count-site (is_raising l (bonds_of c.args.couplings.now b) (colours_of l c.args.sites.now b)) c.args.site))

pub returns-clause-lowering : goal.returns-clause-lowering
returns-clause-lowering c = λ b h.
    let l = c.args.lattice.now in
    c.count_three-2.ensures b h
    ∙ rw (c.requires.lowering b h, c.equal_bond-x_raising.ensures.lowering b h, c.equal_bond-y_raising.ensures.lowering b h, c.equal_bond-z_raising.ensures.lowering b h)
    (sym (count-site (is_lowering l (bonds_of c.args.couplings.now b) (colours_of l c.args.sites.now b)) c.args.site))
