use Rattle.std.proofs.Common.{◌+◌, ◌*◌}
use Rattle.quenched_run.specs.Steps.{IsStillSlot}
use Rattle.quenched_run.proofs.slots.sweep_slot.Given as goal

abbrev pub invariant-calls : goal.invariant-calls
invariant-calls g l = IsStillSlot l.plan (l.rest + 4000 * l.k) l.slot l.fn.duo l.duo
