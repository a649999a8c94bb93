use Rattle.scalar_rule.specs.Epoch.{slot_at, swept_slot}
use Rattle.scalar_rule.specs.Shape.{FitSlots}
use Rattle.scalar_rule.proofs.Written.{Written}
use Rattle.scalar_rule.proofs.epoch.sweep_slots.Given as goal

abbrev pub invariant-swept : goal.invariant-swept
invariant-swept l = record {
  written : Written (λ t. swept_slot l.plan l.bit t (slot_at l.fn.slots t)) l.fn.slots l.slots l.slot;
  fits : FitSlots l.plan l.slots;
}
