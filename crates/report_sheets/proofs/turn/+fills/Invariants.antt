-- Each part is shorter.
use Rattle.std.proofs.Common.{length, ◌+◌, ◌*◌, ◌-◌}
use Rattle.report_sheets.proofs.turn.+fills.Given as goal

abbrev pub decreases-fill_and_put : goal.decreases-fill_and_put
decreases-fill_and_put g l = 4 * length l.sheets.now

abbrev pub decreases-fill_both : goal.decreases-fill_both
decreases-fill_both g l = 4 * (length l.own.now + length l.others.now) - 1

abbrev pub decreases-fill_both-join_mut+arg3 : goal.decreases-fill_both-join_mut+arg3
decreases-fill_both-join_mut+arg3 g l = 4 * length l.others.now + 1
