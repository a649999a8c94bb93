use Rattle.std.proofs.Common.{◌≡◌, ℕ, ◌+◌, ◌-◌, ◌*◌, ◌/◌, ◌%◌, subst, arith}
use Rattle.plane_sweep.specs.PlaneSweep.{SweepsRow}
use Rattle.plane_sweep.proofs.RowPairs.{across-joined}
use Rattle.plane_sweep.proofs.pairs.sweep_pair.Goals as goal

pub returns : goal.returns
returns g c =
    let half = c.args.row.now.half in
    let k = 4 * (half / 4) in
    let pair = c.requires.behind in
    let width = pair.half in
    let some = pair.two in
    let done : 0 + 4 * ((half - 0) / 4) ≡ k = omega arith in
    let P : ℕ → Type 0 = λ n. SweepsRow c.args.around.now c.args.rule.now c.args.draws.now c.args.row.now 0 n c.args.own.now c.sweep_fours.new.own in
    across-joined c.args.around.now c.args.rule.now c.args.draws.now c.args.row.now c.args.behind.now 0 k ((4 - half % 4) % 4)
    c.args.own.now c.sweep_fours.new.own c.sweep_crossing.new.own c.sweep_rest.new.own
    (omega arith) (omega arith) (omega arith) (subst P done c.sweep_fours.ensures) c.sweep_crossing.ensures c.sweep_rest.ensures
