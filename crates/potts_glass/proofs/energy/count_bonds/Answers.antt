use Rattle.std.proofs.Common.{◌∙◌, sym}
use Rattle.coupling_set.specs.CouplingWords.{bonds_of}
use Rattle.spin_model.proofs.Tables.{count_below-zero}
use Rattle.potts_glass.specs.Potts.{is_raising, is_lowering}
use Rattle.potts_glass.specs.PackedColours.{colours_of}
use Rattle.potts_glass.proofs.energy.count_bonds.Goals as goal

pub sites-init : goal.sites-init
sites-init c =
    let l = c.args.lattice.now in
    record {
      raising = λ b h. c.zero.ensures b ∙ sym (count_below-zero (is_raising l (bonds_of c.args.couplings.now b) (colours_of l c.args.sites.now b)));
      lowering = λ b h. c.zero-2.ensures b ∙ sym (count_below-zero (is_lowering l (bonds_of c.args.couplings.now b) (colours_of l c.args.sites.now b)));
    }
