use Rattle.std.proofs.Common.{◌≡◌}
use Rattle.spin_model.specs.Steps.{table}
use Rattle.scalar_rule.specs.Opening.{opening_slot}
use Rattle.scalar_rule.proofs.opening.opening_slots.Given as goal

abbrev pub invariant-opened : goal.invariant-opened
invariant-opened l = l.slots.items ≡ table (opening_slot l.plan l.start l.bank l.bit) l.slot
