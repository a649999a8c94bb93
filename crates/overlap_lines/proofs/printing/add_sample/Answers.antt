use Rattle.std.proofs.Common.{◌<◌, [], ◌++◌, get_or, ap}
use Rattle.std.specs.Prelude.{ℕ}
use Rattle.glass_edges.proofs.Writing.{fronts-none, fronts-more, fronts-stopped, fronts-same}
use Rattle.scalar_rule.specs.Plan.{slots_of}
use Rattle.overlap_lines.specs.CountedText.{counted_slot}
use Rattle.spin_model.proofs.Joined.{joined-zero, joined-more, joined-at}
use Rattle.overlap_lines.proofs.printing.add_sample.Goals as goal

pub slots-init : goal.slots-init
slots-init g c = fronts-none (joined-zero _ _)

pub slots-preserved : goal.slots-preserved
slots-preserved g c =
    let same = ap (λ (l : ℕ). c.slots.line ++ counted_slot l c.args.sample c.slots.t (get_or c.args.counts.now c.slots.t [])) c.lattice-lattice.ensures.value in
    fronts-more _ _ _ c.slots.invariant (fronts-same same c.in_ok-add_slot.ensures) (joined-more _ _ c.slots.t)

pub returns-in_err-add_slot : goal.returns-in_err-add_slot
returns-in_err-add_slot g c =
    let same = ap (λ (l : ℕ). c.slots.line ++ counted_slot l c.args.sample c.slots.t (get_or c.args.counts.now c.slots.t [])) c.lattice-lattice.ensures.value in
    let below : c.slots.t < slots_of c.args.plan.now = rw c.slots-t-end.ensures.value at c.slots-test.true in
    fronts-stopped _ _ _ _ c.from_residual.ensures.0 c.slots.invariant (fronts-same same c.in_err-add_slot.ensures) (joined-at _ _ c.slots.t _ below)
