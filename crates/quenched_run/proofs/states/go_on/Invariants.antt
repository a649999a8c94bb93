use Rattle.std.specs.Arc.{arc_value}
use Rattle.std.proofs.Common.{map}
use Rattle.quenched_run.proofs.GoneStates.{GoneTo}
use Rattle.quenched_run.proofs.states.go_on.Given as goal

abbrev pub invariant-times : goal.invariant-times
invariant-times g l = GoneTo (map arc_value l.quench.plans.now) l.quench.times.now l.fn.held l.states.items l.j
