use Rattle.std.proofs.Common.{◌≡◌, length, All}
use Rattle.plane_sweep.specs.Packed.{FitsPlane}
use Rattle.bench_kernels.proofs.replicas.replica_of.Given as goal

abbrev pub invariant-planes : goal.invariant-planes
invariant-planes l = record { count : length l.planes.items ≡ l.q; fit : All (FitsPlane l.lattice) l.planes.items }
