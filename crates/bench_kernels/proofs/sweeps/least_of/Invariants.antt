use Rattle.plane_sweep.specs.Packed.{FitsReplica}
use Rattle.bench_kernels.proofs.sweeps.least_of.Given as goal

abbrev pub invariant-passes : goal.invariant-passes
invariant-passes g l = FitsReplica l.plan.size l.replica
