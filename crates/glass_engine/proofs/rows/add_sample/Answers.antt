use Rattle.spin_model.proofs.Joined.{joined-zero, joined-more, joined-at}
use Rattle.glass_edges.proofs.Writing.{fronts-none, fronts-more, fronts-stopped}
use Rattle.glass_engine.proofs.rows.add_sample.Goals as goal

pub slots-init : goal.slots-init
slots-init g c = fronts-none (joined-zero _ _)

pub slots-preserved : goal.slots-preserved
slots-preserved g c = fronts-more _ _ _ c.slots.invariant c.in_ok-add_row.ensures (joined-more _ _ c.slots.slot)

pub returns-in_err-add_row : goal.returns-in_err-add_row
returns-in_err-add_row g c =
    fronts-stopped _ _ _ _ c.from_residual.ensures.0 c.slots.invariant c.in_err-add_row.ensures (joined-at _ _ c.slots.slot _ c.slots-test.true)
