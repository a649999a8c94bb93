use Rattle.std.proofs.Common.{◌≡◌, ℕ, ◌<◌, length, get_or}
use Rattle.std.specs.Prelude.{pos}
use Rattle.coupling_set.specs.CouplingWords.{bonds_of}
use Rattle.potts_glass.specs.Potts.{energy}
use Rattle.potts_glass.specs.PackedColours.{colours_of}
use Rattle.potts_glass.proofs.energy.write_energies.Given as goal

abbrev pub invariant-samples : goal.invariant-samples
invariant-samples l = record {
  sized : length l.out ≡ 64;
  written : (k : ℕ) → k < l.b → get_or l.out k (pos 0) ≡ energy l.lattice (bonds_of l.couplings k) (colours_of l.lattice l.sites k);
}
