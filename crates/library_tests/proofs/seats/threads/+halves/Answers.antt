-- Two halves of idle seats are the whole.
use Rattle.std.proofs.Common.{Some, subst}
use Rattle.turn_cell.specs.Seats.{cell_id, AreIdle}
use Rattle.turn_cell.proofs.Seating.{idle-front, idle-back, idle-append}
use Rattle.library_tests.proofs.seats.threads.+halves.Goals as goal

pub work_all-both-requires-clause-front : goal.work_all-both-requires-clause-front
work_all-both-requires-clause-front g t c κs within =
    idle-front (cell_id c.args.cell.now) (Some 7) c.args.total c.split_at_mut-front.result.0.now c.split_at_mut-front.result.1.now (subst (AreIdle (cell_id c.args.cell.now) (Some 7) c.args.total) c.split_at_mut-front.ensures.value c.requires.idle)

pub work_all-both-requires-clause-back : goal.work_all-both-requires-clause-back
work_all-both-requires-clause-back g t c κs within =
    idle-back (cell_id c.args.cell.now) (Some 7) c.args.total c.split_at_mut-front.result.0.now c.split_at_mut-front.result.1.now (subst (AreIdle (cell_id c.args.cell.now) (Some 7) c.args.total) c.split_at_mut-front.ensures.value c.requires.idle)

pub work_all-returns-clause-idle : goal.work_all-returns-clause-idle
work_all-returns-clause-idle g t c =
    idle-append (cell_id c.args.cell.now) (Some 7) c.args.total c.both.new.front c.both.new.back c.both.ensures.front c.both.ensures.back
