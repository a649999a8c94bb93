use Rattle.std.proofs.Common.{[], sym, ap, ◌∙◌}
use Rattle.coupling_set.specs.CouplingWords.{bonds_of}
use Rattle.spin_model.specs.Steps.{table}
use Rattle.spin_model.proofs.Tables.{get_or-table, table-same}
use Rattle.potts_glass.specs.Potts.{energy}
use Rattle.potts_glass.specs.PackedColours.{colours_of}
use Rattle.potts_glass.specs.PottsStates.{energy_of}
use Rattle.potts_glass.proofs.potts.Potts.energies.Goals as goal

pub returns : goal.returns
returns c =
    let potts = c.self.inside in
    let l = potts.couplings.size in
    c.write_energies.ensures
    ∙ ap (λ n. table (λ b. energy n (bonds_of potts.couplings b) (colours_of n potts.sites b)) 64) c.self.invariant.size
    ∙ table-same _ _ 64 (λ b h. ap (energy l (bonds_of potts.couplings b)) (sym (get_or-table (colours_of l potts.sites) 64 b [] h)))
    ∙ ap (λ v. table (energy_of v) 64) c.self.view_is
