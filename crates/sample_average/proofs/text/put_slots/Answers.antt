use Rattle.std.proofs.Common.{arith, ap}
use Rattle.glass_edges.proofs.Writing.{writes-none, writes-more, writes-stopped}
use Rattle.sample_average.proofs.Pieces.{pieces-none, pieces-more, pieces-at}
use Rattle.sample_average.proofs.text.put_slots.Goals as goal

pub slots-init : goal.slots-init
slots-init g c = writes-none (pieces-none _)

pub slots-preserved : goal.slots-preserved
slots-preserved g c = writes-more c.slots.invariant c.in_ok-put_slot.ensures (pieces-more _ c.slots.slot)

pub returns-in_err-put_slot : goal.returns-in_err-put_slot
returns-in_err-put_slot g c =
    writes-stopped _ c.from_residual.ensures.0 c.slots.invariant c.in_err-put_slot.ensures (pieces-at _ c.slots.slot _ (omega (arith, c.slots-test.true, ap (λ h. h.slots) c.header-slot-end.ensures.value)))
