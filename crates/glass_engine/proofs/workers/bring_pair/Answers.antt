-- Two partners go back, and the next come, in one turn.
use Rattle.std.proofs.Common.{ap}
use Rattle.exchange_board.specs.Views.{JobView}
use Rattle.turn_cell.specs.AtomicSteps.{with_refused}
use Rattle.turn_cell.specs.Seats.{seat_view}
use Rattle.shared_board.specs.Shared.{lock_id}
use Rattle.glass_engine.proofs.Giving.{low-once, high-once, given-next}
use Rattle.glass_engine.proofs.workers.bring_pair.Goals as goal

pub settle_pair-requires-clause-once : goal.settle_pair-requires-clause-once
settle_pair-requires-clause-once g c =
    let at = ap (λ (j : JobView). j.slot) c.sweep-swept.ensures in
    let out = (seat_view c.args.seat.now).out in (
      low-once c.args.job.slot c.args.job.epoch c.sweep-swept.result.slot out at c.requires.own.0.work,
      high-once c.args.job.slot c.args.job.epoch c.sweep-swept.result.slot out at c.requires.own.0.work,
    )

pub returns-clause-given : goal.returns-clause-given
returns-clause-given g c =
    given-next (lock_id c.args.shared.now.board.now) c.args.shared.now.plan.now (with_refused (seat_view c.args.seat.now) (seat_view c.settle_pair.new.pass).refused)
    c.settle_pair.new.pass c.args.job.slot c.args.job.epoch c.sweep-swept.result.slot c.sweep-swept.result.epoch c.settle_pair.result
    c.settle_pair.ensures.own (ap (λ (j : JobView). j.slot) c.sweep-swept.ensures) c.requires.own.0.work c.requires.own.0.base c.settle_pair.ensures.turned
