use Rattle.std.proofs.Common.{◌≡◌, ◌+◌, ◌*◌, arith}
use Rattle.plane_sweep.proofs.RowSweeps.{row-joined}
use Rattle.plane_sweep.proofs.pairs.sweep_fours.Goals as goal

pub fours-preserved : goal.fours-preserved
fours-preserved g c =
    let more : c.args.done + 4 * c.fours.j + 4 ≡ c.args.done + 4 * (c.fours.j + 1) = omega arith in
    rw (← more)
    (row-joined c.args.around.now c.args.rule.now c.args.draws.now c.args.row.now c.args.done (c.args.done + 4 * c.fours.j) (c.args.done + 4 * c.fours.j + 4) c.args.own.now c.fours.own c.sweep_four.new.own
    (omega arith) (omega arith) c.fours.invariant c.sweep_four.ensures)
