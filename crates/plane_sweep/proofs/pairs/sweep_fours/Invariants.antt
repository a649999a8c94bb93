use Rattle.std.proofs.Common.{◌+◌, ◌*◌}
use Rattle.plane_sweep.specs.PlaneSweep.{SweepsRow}
use Rattle.plane_sweep.proofs.pairs.sweep_fours.Given as goal

abbrev pub invariant-fours : goal.invariant-fours
invariant-fours g l = SweepsRow l.around l.rule l.draws l.row l.done (l.done + 4 * l.j) l.fn.own l.own
