use Rattle.aging_run.specs.Keeping.{KeepsPlane}
use Rattle.plane_sweep.specs.Storing.{Changed}
use Rattle.aging_run.proofs.keeping.keep_planes.Given as goal

abbrev pub invariant-planes : goal.invariant-planes
invariant-planes l = Changed (KeepsPlane l.planes) l.k l.fn.kept l.kept
