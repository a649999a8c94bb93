use Rattle.std.proofs.Common.{◌≡◌, ℕ, ◌*◌, ◌<◌}
use Rattle.multispin_word.specs.Planes.{number}
use Rattle.coupling_set.specs.CouplingWords.{bonds_of}
use Rattle.spin_model.specs.Steps.{count_below}
use Rattle.potts_glass.specs.Potts.{is_raising, is_lowering}
use Rattle.potts_glass.specs.PackedColours.{colours_of}
use Rattle.potts_glass.proofs.energy.count_bonds.Given as goal

abbrev pub invariant-sites : goal.invariant-sites
invariant-sites l = record {
  raising : (b : ℕ) → b < 64 → number l.bonds.raising.words b ≡ count_below (is_raising l.lattice (bonds_of l.couplings b) (colours_of l.lattice l.sites b)) (3 * l.site);
  lowering : (b : ℕ) → b < 64 → number l.bonds.lowering.words b ≡ count_below (is_lowering l.lattice (bonds_of l.couplings b) (colours_of l.lattice l.sites b)) (3 * l.site);
}
