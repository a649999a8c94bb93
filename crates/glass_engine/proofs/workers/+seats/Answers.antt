-- A seat and the others are all of them.
use Rattle.std.proofs.Common.{subst}
use Rattle.shared_board.specs.Shared.{lock_id}
use Rattle.glass_engine.specs.Working.{AreAtRest}
use Rattle.glass_engine.proofs.Leaving.{rest-front, rest-back, left-append}
use Rattle.glass_engine.proofs.workers.+seats.Goals as goal

pub work_all-both-requires-clause-front : goal.work_all-both-requires-clause-front
work_all-both-requires-clause-front g t c κs within =
    rest-front (lock_id c.args.shared.now.board.now) c.args.shared.now.plan.now c.split_at_mut-front.result.0.now c.split_at_mut-front.result.1.now (subst (AreAtRest (lock_id c.args.shared.now.board.now) c.args.shared.now.plan.now) c.split_at_mut-front.ensures.value c.requires.rest)

pub work_all-both-requires-clause-back : goal.work_all-both-requires-clause-back
work_all-both-requires-clause-back g t c κs within =
    rest-back (lock_id c.args.shared.now.board.now) c.args.shared.now.plan.now c.split_at_mut-front.result.0.now c.split_at_mut-front.result.1.now (subst (AreAtRest (lock_id c.args.shared.now.board.now) c.args.shared.now.plan.now) c.split_at_mut-front.ensures.value c.requires.rest)

pub work_all-returns : goal.work_all-returns
work_all-returns g t c =
    rw c.split_at_mut-front.ensures.value
    (left-append (lock_id c.args.shared.now.board.now) c.args.shared.now.plan.now c.split_at_mut-front.result.0.now c.split_at_mut-front.result.1.now c.both.new.front c.both.new.back c.both.ensures.front c.both.ensures.back)
