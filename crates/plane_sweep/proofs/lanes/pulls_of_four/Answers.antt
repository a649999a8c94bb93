use Rattle.std.proofs.Common.{◌+◌, ◌∙◌, arith}
use Rattle.plane_sweep.specs.PlaneSweep.{pulls_lent}
use Rattle.plane_sweep.proofs.FourLanes.{pulled}
use Rattle.plane_sweep.proofs.lanes.pulls_of_four.Goals as goal

pub returns : goal.returns
unfolding pulls_lent
returns c = λ i below.
    let s = c.args.around.now in
    let row = c.args.row.now in
    let k = c.args.k in
    let e₀ = c.ahead_in_x.ensures.words i below in
    let e₁ = c.pull.ensures.words i below ∙ pulled s.here.now s.ahead_y.now (row.up + k + i) (row.here + k + i) (row.up + (k + i)) (row.here + (k + i)) (omega arith) (omega arith) in
    let e₂ = c.pull-2.ensures.words i below ∙ pulled s.above.now s.ahead_z.now (row.here + k + i) (row.here + k + i) (row.here + (k + i)) (row.here + (k + i)) (omega arith) (omega arith) in
    let e₃ = c.behind_in_x.ensures.words i below in
    let e₄ = c.pull-3.ensures.words i below ∙ pulled s.here.now s.here_y.now (row.down + k + i) (row.down + k + i) (row.down + (k + i)) (row.down + (k + i)) (omega arith) (omega arith) in
    let e₅ = c.pull-4.ensures.words i below ∙ pulled s.below.now s.below_z.now (row.here + k + i) (row.here + k + i) (row.here + (k + i)) (row.here + (k + i)) (omega arith) (omega arith) in
    cc
