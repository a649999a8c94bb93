use Rattle.plane_sweep.specs.Beginnings.{Each, BeginsDuo}
use Rattle.plane_sweep.proofs.opening.opening_slots.Given as goal

abbrev pub invariant-opened : goal.invariant-opened
invariant-opened l = Each (BeginsDuo l.plan l.start l.bank) l.slot l.slots.items
