use Rattle.std.proofs.Common.{◌≡◌, ◌<◌, length, get_or, arith}
use Rattle.plane_sweep.specs.Packed.{part, part_slot}
use Rattle.plane_sweep.proofs.Gathering.{changed-none, changed-more}
use Rattle.spin_model.proofs.Joined.{joined-zero, joined-more, joined-at}
use Rattle.glass_edges.proofs.Writing.{writes-none, writes-more, writes-stopped, writes-same}
use Rattle.scalar_rule.specs.Epoch.{slot_at}
use Rattle.aging_run.specs.Aging.{slot_lines}
use Rattle.aging_run.proofs.Slots.{slot-read, slot-fits, slot-lines}
use Rattle.aging_run.proofs.writing.write_slots.Goals as goal
use Rattle.aging_run.proofs.writing.write_slots.Goals.{After-at_mut}

-- there is such a slot
below : (g : _) (c : After-at_mut g) → c.slots.slot < length c.args.stand.now.slots
below g c = omega (arith, c.slots-test.true, c.slots-slot-end.ensures.value, c.requires.stand.slots)

-- it is as the stand had it, since the slots before it alone are swept
read : (g : _) (c : After-at_mut g) → c.at_mut.result.now ≡ get_or c.args.stand.now.slots c.slots.slot c.at_mut.result.now
read g c = slot-read c.args.stand.now.slots c.slots.stand.slots c.slots.slot c.at_mut.result.now c.slots.invariant.rest (below g c) c.at_mut.ensures.value

-- and its lines are those of the samples' slots
lines : (g : _) (c : After-at_mut g)
    → slot_lines c.args.order.now.plan.now c.args.order.now.samples c.args.order.now.wait c.args.order.now.times.now c.slots.slot (λ b. part_slot c.args.order.now.plan.now.size b c.at_mut.result.now)
    ≡ slot_lines c.args.order.now.plan.now c.args.order.now.samples c.args.order.now.wait c.args.order.now.times.now c.slots.slot (λ b. slot_at (part c.args.order.now.plan.now.size b c.args.stand.now).slots c.slots.slot)
lines g c = slot-lines c.args.order.now.plan.now c.args.order.now.samples c.args.order.now.wait c.args.order.now.times.now c.slots.slot c.args.stand.now c.at_mut.result.now (below g c) (read g c)

pub slots-init : goal.slots-init
slots-init g c = record {
  written = writes-none (joined-zero _ _);
  rest = changed-none _ _;
  room = c.requires.kept;
}

pub write_slot-requires-clause-duo : goal.write_slot-requires-clause-duo
write_slot-requires-clause-duo g c = λ κs outlive.
    let at = (goal.at.write_slot-requires-clause-duo g c).After-at_mut in
    slot-fits c.args.order.now.plan.now c.args.stand.now c.slots.slot c.at_mut.result.now c.requires.stand (below g at) (read g at)

pub slots-preserved : goal.slots-preserved
slots-preserved g c =
    let at = (goal.at.slots-preserved g c).After-at_mut in
    record {
      written = writes-more c.slots.invariant.written (writes-same (lines g at) c.in_ok-write_slot.ensures.written) (joined-more _ _ c.slots.slot);
      rest = changed-more _ c.slots.slot c.args.stand.now.slots c.slots.stand.slots c.at_mut.result.now c.write_slot.new.duo c.slots.invariant.rest (below g at) c.at_mut.ensures.value tt;
      room = c.in_ok-write_slot.ensures.room;
    }

pub returns-in_err-write_slot : goal.returns-in_err-write_slot
returns-in_err-write_slot g c =
    let at = (goal.at.returns-in_err-write_slot g c).After-at_mut in
    writes-stopped _ c.from_residual.ensures.0 c.slots.invariant.written (writes-same (lines g at) c.in_err-write_slot.ensures.written)
    (joined-at _ _ c.slots.slot _ (omega (arith, c.slots-test.true, c.slots-slot-end.ensures.value)))
