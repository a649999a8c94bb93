-- The parts are all slots.
use Rattle.std.proofs.Common.{List, ◌++◌, sym, subst}
use Rattle.measured_run.specs.Cells.{AreSwept}
use Rattle.measured_run.specs.declared.cell.Cell.{Cell}
use Rattle.measured_run.proofs.Parts.{swept-append}
use Rattle.measured_run.proofs.workers.+rooms.Goals as goal

pub sweep_all-returns : goal.sweep_all-returns
sweep_all-returns g t c =
    let plan = c.args.step.now.plan.now in
    let every = c.args.step.now.every in
    let e = c.args.step.now.epoch in
    let front = c.split_at_mut-front.result.0.now in
    let back = c.split_at_mut-front.result.1.now in
    subst (λ (cells : List Cell). AreSwept plan every e c.args.first cells (c.both.new.front ++ c.both.new.back)) (sym c.split_at_mut-front.ensures.value)
    (swept-append plan every e c.args.first front back c.both.new.front c.both.new.back c.both.ensures.front c.both.ensures.back)
