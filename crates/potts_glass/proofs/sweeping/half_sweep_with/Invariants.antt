use Rattle.std.proofs.Common.{◌≡◌, ℕ, ◌*◌, ◌<◌, length}
use Rattle.spin_model.specs.Steps.{steps}
use Rattle.potts_glass.specs.PackedColours.{colours_of}
use Rattle.potts_glass.specs.Potts.{visit, site_draw, plane_drawn}
use Rattle.potts_glass.specs.PottsStates.{dynamics_on}
use Rattle.potts_glass.proofs.sweeping.half_sweep_with.Given as goal

abbrev pub invariant-planes : goal.invariant-planes
invariant-planes l = record {
  colours : (b : ℕ) → b < 64 → colours_of l.sweep.lattice.now l.sites b
      ≡ steps (visit (dynamics_on l.sweep.lattice.now l.sweep.couplings.now l.sweep.row.now.values b) (site_draw l.sweep.lattice.now l.fn.wheels) l.sweep.class)
      0 (l.z * (l.sweep.lattice.now * l.sweep.lattice.now)) (colours_of l.sweep.lattice.now l.fn.sites b);
  words : l.wheels ≡ steps (plane_drawn l.sweep.lattice.now l.sweep.class) 0 l.z l.fn.wheels;
  sites : length l.sites ≡ length l.fn.sites;
  wheels : length l.wheels ≡ length l.fn.wheels;
}
