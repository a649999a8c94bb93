use Rattle.std.proofs.Common.{◌≡◌, ◌*◌, length}
use Rattle.spin_model.specs.Steps.{steps}
use Rattle.scalar_rule.specs.SlotRules.{dynamics_with}
use Rattle.scalar_rule.specs.Sweep.{visit, site_draw, plane_drawn}
use Rattle.scalar_rule.proofs.planes.half_sweep_with.Given as goal

abbrev pub invariant-planes : goal.invariant-planes
invariant-planes g l = record {
  spins : l.replica.spins ≡ steps (visit (dynamics_with l.sweep.lattice.now l.sweep.rule.now (g.B.Bonds.negative l.sweep.bonds.now)) (site_draw l.sweep.lattice.now l.fn.replica.wheels) l.sweep.colour) 0 (l.z * (l.sweep.lattice.now * l.sweep.lattice.now)) l.fn.replica.spins;
  words : l.replica.wheels ≡ steps (plane_drawn l.sweep.lattice.now l.sweep.colour) 0 l.z l.fn.replica.wheels;
  label : l.replica.replica ≡ l.fn.replica.replica;
  sites : length l.replica.spins ≡ length l.fn.replica.spins;
  lists : length l.replica.wheels ≡ length l.fn.replica.wheels;
}
