use Rattle.std.proofs.Common.{◌≡◌, ℕ, ◌+◌, ◌*◌, ◌<◌, length}
use Rattle.std.specs.Prelude.{slice_index}
use Rattle.spin_model.specs.Lattice.{place_in_plane}
use Rattle.spin_model.specs.Steps.{steps}
use Rattle.potts_glass.specs.PackedColours.{colours_of}
use Rattle.potts_glass.specs.Potts.{visit}
use Rattle.potts_glass.specs.PottsStates.{dynamics_on}
use Rattle.potts_glass.proofs.sweeping.sweep_row.Given as goal

abbrev pub invariant-fours : goal.invariant-fours
invariant-fours l = record {
  colours : (b : ℕ) → b < 64 → colours_of l.sweep.lattice.now l.sites b
      ≡ steps (visit (dynamics_on l.sweep.lattice.now l.sweep.couplings.now l.sweep.row.now.values b) (λ i m. slice_index l.draws (2 * place_in_plane l.sweep.lattice.now i + m)) l.sweep.class)
      (l.z * (l.sweep.lattice.now * l.sweep.lattice.now) + l.y * l.sweep.lattice.now) (2 * (4 * l.j)) (colours_of l.sweep.lattice.now l.fn.sites b);
  sites : length l.sites ≡ length l.fn.sites;
}

abbrev pub invariant-pairs : goal.invariant-pairs
invariant-pairs l = record {
  colours : (b : ℕ) → b < 64 → colours_of l.sweep.lattice.now l.sites b
      ≡ steps (visit (dynamics_on l.sweep.lattice.now l.sweep.couplings.now l.sweep.row.now.values b) (λ i m. slice_index l.draws (2 * place_in_plane l.sweep.lattice.now i + m)) l.sweep.class)
      (l.z * (l.sweep.lattice.now * l.sweep.lattice.now) + l.y * l.sweep.lattice.now) (2 * l.k) (colours_of l.sweep.lattice.now l.fn.sites b);
  sites : length l.sites ≡ length l.fn.sites;
}
