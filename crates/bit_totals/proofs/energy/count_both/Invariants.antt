-- The bonds of the sites of colour 0 in the planes before z are counted, of both replicas.
use Rattle.std.proofs.Common.{◌≡◌, ℕ, ◌*◌, ◌<◌}
use Rattle.bit_totals.specs.Counted.{unsatisfied_from}
use Rattle.bit_totals.specs.Tallies.{tallied}
use Rattle.coupling_set.specs.CouplingWords.{bonds_of}
use Rattle.plane_sweep.specs.Packed.{spins_of}
use Rattle.spin_model.specs.Lattice.{half_plane}
use Rattle.bit_totals.proofs.energy.count_both.Given as goal

abbrev pub invariant-planes : goal.invariant-planes
invariant-planes l = record {
  first : (b : ℕ) → b < 64 → tallied l.first.rows b
      ≡ unsatisfied_from l.plan.size (bonds_of l.plan.couplings b) (spins_of l.plan.size b l.duo.first.planes) 0 (l.z * half_plane l.plan.size);
  second : (b : ℕ) → b < 64 → tallied l.second.rows b
      ≡ unsatisfied_from l.plan.size (bonds_of l.plan.couplings b) (spins_of l.plan.size b l.duo.second.planes) 0 (l.z * half_plane l.plan.size);
}
