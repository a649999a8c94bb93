use Rattle.std.proofs.Common.{◌≡◌, ℕ, ◌++◌, flat_map, ap, subst, sym, arith}
use Rattle.glass_edges.proofs.Writing.{fronts-none, fronts-more, fronts-stopped, fronts-same}
use Rattle.spin_model.specs.Steps.{table}
use Rattle.spin_model.proofs.Joined.{joined-zero, joined-more, joined-at}
use Rattle.quenched_states.specs.QuenchText.{slot_lines}
use Rattle.quench_report.specs.Held.{of_earlier, of_sample, TellsKept}
use Rattle.quench_report.specs.States.{heading_of}
use Rattle.quench_report.specs.declared.measuring.KeptSums.{KeptSums}
use Rattle.quench_report.proofs.writer.add_sample.Goals as goal

pub slots-init : goal.slots-init
slots-init g c = λ seen fields hold. fronts-none (joined-zero _ _)

pub slots-preserved : goal.slots-preserved
slots-preserved g c = λ seen fields hold.
    let t = c.slots.slot in
    let told = subst (λ (s : KeptSums). TellsKept c.args.head.now.lattice c.args.state s (seen t) (fields t)) (sym c.sums_at.ensures) (hold t c.slots-test.true) in
    fronts-more _ _ _ (c.slots.invariant seen fields hold) (c.in_ok-add_slot.ensures seen fields told) (joined-more _ _ t)

pub returns-in_err-add_slot : goal.returns-in_err-add_slot
returns-in_err-add_slot g c = λ seen fields hold.
    let t = c.slots.slot in
    let told = subst (λ (s : KeptSums). TellsKept c.args.head.now.lattice c.args.state s (seen t) (fields t)) (sym c.sums_at.ensures) (hold t c.slots-test.true) in
    fronts-stopped _ _ _ _ c.from_residual.ensures.0 (c.slots.invariant seen fields hold) (c.in_err-add_slot.ensures seen fields told)
    (joined-at _ _ t _ c.slots-test.true)

pub returns : goal.returns
returns g c = λ seen fields hold.
    let all : c.slots.slot ≡ c.args.head.now.slots = omega (arith, c.slots-test.false, c.slots.auto.slot-end) in
    fronts-same
    (ap (λ (n : ℕ). c.args.line.now ++ flat_map (slot_lines (heading_of c.args.head.now) (of_sample seen) (of_earlier fields) c.args.state c.args.sample) (table (λ t. t) n)) all)
    (c.slots.invariant seen fields hold)
