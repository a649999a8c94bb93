use Rattle.plane_sweep.specs.Storing.{Changed, StoresPlane}
use Rattle.plane_sweep.proofs.storing.store_planes.Given as goal

abbrev pub invariant-planes : goal.invariant-planes
invariant-planes l = Changed (StoresPlane l.lattice l.sample l.part.spins l.part.wheels) l.k l.fn.planes l.planes
