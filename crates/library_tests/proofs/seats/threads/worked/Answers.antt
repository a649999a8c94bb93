-- The seats are opened idle, and come back so.
use Rattle.std.proofs.Common.{sym, subst}
use Rattle.turn_cell.specs.Seats.{cell_id, AreOpened}
use Rattle.turn_cell.proofs.Seating.{idle-opened}
use Rattle.library_tests.proofs.seats.threads.worked.Goals as goal

pub work_all-requires-clause-idle : goal.work_all-requires-clause-idle
work_all-requires-clause-idle g c κs within =
    idle-opened (cell_id c.in_ok-cell.cell) 7 2 c.args.total 0 c.as_mut_slice.result.now (subst (AreOpened (cell_id c.in_ok-cell.cell) 7 2 c.args.total 0) (sym c.as_mut_slice.ensures.value) c.in_ok-cell.ensures.opened)
