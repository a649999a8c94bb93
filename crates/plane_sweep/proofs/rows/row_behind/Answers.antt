use Rattle.std.proofs.Common.{ℕ, ◌+◌, not, arith, sym, subst}
use Rattle.plane_sweep.specs.PlaneSweep.{IsRow}
use Rattle.plane_sweep.proofs.RowSteps.{row-inside, row-around}
use Rattle.plane_sweep.proofs.rows.row_behind.Goals as goal
use Rattle.plane_sweep.proofs.rows.row_behind.Goals.{then-row-words, else-row-words}

pub returns : goal.returns
returns c = λ l colour z y lawful below whole at.
    let row = c.args.row.now in
    let P : ℕ → Type 0 = λ up. IsRow l colour z (y + 1) (record { half = row.half; here = row.here + row.half; up = up; down = row.here; even = not row.even }) in
    elim c.if-row-words.branch [
      | then-row-words w ↦ subst P (sym w.result-is) (row-inside l colour z y c.args.words row lawful below whole at w.if-row-words.true)
      | else-row-words w ↦ subst P (sym w.result-is) (row-around l colour z y c.args.words row lawful below whole at (omega (arith, w.if-row-words.false)))
    ]
