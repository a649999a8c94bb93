use Rattle.std.proofs.Common.{◌-◌, ◌*◌, ◌/◌, Bool, sym, subst}
use Rattle.plane_sweep.specs.PlaneSweep.{IsRow}
use Rattle.plane_sweep.proofs.RowSteps.{row-first}
use Rattle.plane_sweep.proofs.rows.first_row.Goals as goal

pub returns : goal.returns
returns c = λ k z same.
    let l = c.args.size in
    let P : Bool → Type 0 = λ e. IsRow l k z 0 (record { half = l / 2; here = 0; up = l / 2; down = (l - 1) * (l / 2); even = e }) in
    subst P (sym same) (row-first l k z c.requires.size)
