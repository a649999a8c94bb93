use Rattle.std.proofs.Common.{◌≡◌, ℕ, ◌+◌, ◌-◌, ◌*◌, ◌/◌, ◌%◌, subst, arith}
use Rattle.plane_sweep.specs.PlaneSweep.{SweepsRow}
use Rattle.plane_sweep.proofs.RowSweeps.{row-joined}
use Rattle.plane_sweep.proofs.pairs.sweep_rest.Goals as goal

pub returns : goal.returns
returns g c =
    let half = c.args.row.now.half in
    let done = c.args.done in
    let k = half - 2 in
    let left : (half - done) % 4 ≡ 2 = omega (arith, c.requires.even, c.if-row-done-eq0.false) in
    let end : done + 4 * ((half - done) / 4) ≡ k = omega (arith, c.requires.within) in
    let P : ℕ → Type 0 = λ n. SweepsRow c.args.around.now c.args.rule.now c.args.draws.now c.args.row.now done n c.args.own.now c.sweep_fours.new.own in
    row-joined c.args.around.now c.args.rule.now c.args.draws.now c.args.row.now done k half c.args.own.now c.sweep_fours.new.own c.sweep_two.new.own
    (omega arith) (omega arith) (subst P end c.sweep_fours.ensures) c.sweep_two.ensures
