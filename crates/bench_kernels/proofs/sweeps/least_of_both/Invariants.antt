use Rattle.plane_sweep.specs.Packed.{FitsDuo}
use Rattle.bench_kernels.proofs.sweeps.least_of_both.Given as goal

abbrev pub invariant-passes : goal.invariant-passes
invariant-passes g l = FitsDuo l.plan.size l.duo
