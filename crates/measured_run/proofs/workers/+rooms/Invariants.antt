-- Each part has fewer rooms.
use Rattle.std.proofs.Common.{length, ◌+◌, ◌*◌, ◌-◌}
use Rattle.measured_run.proofs.workers.+rooms.Given as goal

abbrev pub decreases-sweep_all : goal.decreases-sweep_all
decreases-sweep_all g l = 4 * length l.rooms.now

abbrev pub decreases-both : goal.decreases-both
decreases-both g l = 4 * (length l.room.now + length l.rooms.now) - 1

abbrev pub decreases-both-join_mut+arg2 : goal.decreases-both-join_mut+arg2
decreases-both-join_mut+arg2 g l = 4 * length l.room.now + 1

abbrev pub decreases-both-join_mut+arg3 : goal.decreases-both-join_mut+arg3
decreases-both-join_mut+arg3 g l = 4 * length l.rooms.now + 1
