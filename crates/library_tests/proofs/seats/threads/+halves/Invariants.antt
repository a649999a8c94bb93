-- Each half is shorter.
use Rattle.std.proofs.Common.{length, ◌+◌, ◌*◌, ◌-◌}
use Rattle.library_tests.proofs.seats.threads.+halves.Given as goal

abbrev pub decreases-work_all : goal.decreases-work_all
decreases-work_all g l = 4 * length l.seats.now

abbrev pub decreases-both : goal.decreases-both
decreases-both g l = 4 * (length l.front.now + length l.back.now) - 1

abbrev pub decreases-both-join_mut+arg2 : goal.decreases-both-join_mut+arg2
decreases-both-join_mut+arg2 g l = 4 * length l.front.now + 1

abbrev pub decreases-both-join_mut+arg3 : goal.decreases-both-join_mut+arg3
decreases-both-join_mut+arg3 g l = 4 * length l.back.now + 1
