use Rattle.std.proofs.Common.{◌≡◌, ◌*◌}
use Rattle.spin_model.specs.Steps.{steps}
use Rattle.scalar_rule.specs.SlotRules.{dynamics_with}
use Rattle.std.specs.Prelude.{slice_index}
use Rattle.spin_model.specs.Lattice.{place_in_plane}
use Rattle.scalar_rule.specs.Sweep.{visit}
use Rattle.scalar_rule.proofs.planes.visit_plane.Given as goal

abbrev pub invariant-sites : goal.invariant-sites
invariant-sites g l = l.spins ≡ steps (visit (dynamics_with l.sweep.lattice.now l.sweep.rule.now (g.B.Bonds.negative l.sweep.bonds.now)) (λ i. slice_index l.draws (place_in_plane l.sweep.lattice.now i)) l.sweep.colour) (l.z * (l.sweep.lattice.now * l.sweep.lattice.now)) l.k l.fn.spins
