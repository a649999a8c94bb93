use Rattle.std.proofs.Common.{◌≡◌, ℕ, subst, arith}
use Rattle.scalar_rule.specs.Epoch.{slot_at, record_of}
use Rattle.scalar_rule.specs.Plan.{slots_of}
use Rattle.scalar_rule.proofs.Written.{Written, written-all}
use Rattle.scalar_rule.proofs.epoch.write_records.Goals as goal

pub returns : goal.returns
returns c =
    let plan = c.args.plan.now in
    let count = c.slots-slot-end.ensures.value in
    let all : c.records.slot ≡ slots_of plan = omega arith in
    let P : ℕ → Type 0 = λ n. Written (λ t. record_of plan c.args.bit (slot_at c.args.slots.now t)) c.args.rows.now c.records.rows n in
    written-all _ c.args.rows.now c.records.rows (slots_of plan) c.requires.rows (subst P all c.records.invariant)
