use Rattle.std.proofs.Common.{◌≡◌, ℕ, ◌++◌, flat_map, ap, arith}
use Rattle.glass_edges.proofs.Writing.{fronts-none, fronts-more, fronts-stopped, fronts-same}
use Rattle.spin_model.specs.Steps.{table}
use Rattle.spin_model.proofs.Joined.{joined-zero, joined-more, joined-at}
use Rattle.quenched_states.specs.CrossText.{copies_lines}
use Rattle.copies_report.specs.Held.{bank_fields}
use Rattle.copies_report.specs.States.{heading_of}
use Rattle.copies_report.proofs.writer.add_sample.Goals as goal

pub slots-init : goal.slots-init
slots-init g c = λ first second hold. fronts-none (joined-zero _ _)

pub slots-preserved : goal.slots-preserved
slots-preserved g c = λ first second hold.
    fronts-more _ _ _ (c.slots.invariant first second hold) (c.in_ok-add_slot.ensures first second hold) (joined-more _ _ c.slots.slot)

pub returns-in_err-add_slot : goal.returns-in_err-add_slot
returns-in_err-add_slot g c = λ first second hold.
    fronts-stopped _ _ _ _ c.from_residual.ensures.0 (c.slots.invariant first second hold) (c.in_err-add_slot.ensures first second hold)
    (joined-at _ _ c.slots.slot _ c.slots-test.true)

pub returns : goal.returns
returns g c = λ first second hold.
    let all : c.slots.slot ≡ c.args.head.now.slots = omega (arith, c.slots-test.false, c.slots.auto.slot-end) in
    fronts-same
    (ap (λ (n : ℕ). c.args.line.now ++ flat_map (copies_lines (heading_of c.args.head.now) (bank_fields c.args.head.now.lattice first second) c.args.sample) (table (λ t. t) n)) all)
    (c.slots.invariant first second hold)
