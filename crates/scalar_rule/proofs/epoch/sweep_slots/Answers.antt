use Rattle.std.proofs.Common.{◌≡◌, ℕ, subst, arith}
use Rattle.scalar_rule.specs.Epoch.{slot_at, swept_slot}
use Rattle.scalar_rule.specs.Plan.{slots_of}
use Rattle.scalar_rule.proofs.Written.{Written, written-all}
use Rattle.scalar_rule.proofs.epoch.sweep_slots.Goals as goal

pub returns-clause-swept : goal.returns-clause-swept
returns-clause-swept c =
    let plan = c.args.plan.now in
    let count = c.slots-slot-end.ensures.value in
    let all : c.swept.slot ≡ slots_of plan = omega arith in
    let P : ℕ → Type 0 = λ n. Written (λ t. swept_slot plan c.args.bit t (slot_at c.args.slots.now t)) c.args.slots.now c.swept.slots n in
    written-all _ c.args.slots.now c.swept.slots (slots_of plan) c.requires.slots.count (subst P all c.swept.invariant.written)
