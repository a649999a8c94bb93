use Rattle.std.proofs.Common.{◌≡◌, ◌+◌, ◌*◌, ◌%◌, subst, arith}
use Rattle.quenched_run.specs.Steps.{IsStillSlot}
use Rattle.quenched_run.proofs.StillBanks.{slot-then}
use Rattle.quenched_run.proofs.slots.sweep_slot.Goals as goal

pub calls-preserved : goal.calls-preserved
calls-preserved g c =
    let plan = c.args.plan.now in
    let done = c.args.epochs % 4000 + 4000 * c.calls.k in
    let more : done + 4000 ≡ c.args.epochs % 4000 + 4000 * (c.calls.k + 1) = omega arith in
    subst (λ n. IsStillSlot plan n c.args.slot c.args.duo.now c.sweep_epochs-in-calls.new.duo) more
    (slot-then plan done 4000 c.args.slot c.args.duo.now c.calls.duo c.sweep_epochs-in-calls.new.duo c.calls.invariant c.sweep_epochs-in-calls.ensures)
