use Rattle.std.proofs.Common.{◌≡◌, ℕ, ◌+◌, ◌-◌, ◌*◌, ◌/◌, ◌%◌, subst, arith}
use Rattle.local_rule.specs.SiteBits.{lane_words}
use Rattle.plane_sweep.specs.PlaneSweep.{SweepsAcross}
use Rattle.plane_sweep.proofs.RowPairs.{across-four}
use Rattle.plane_sweep.proofs.pairs.sweep_crossing.Goals as goal

pub returns : goal.returns
returns g c =
    let half = c.args.row.now.half in
    let k = 4 * (half / 4) in
    let room = c.requires.rows.middle in
    let count : k + 4 - half ≡ (4 - half % 4) % 4 = omega (arith, c.if-row-eq0.false) in
    let P : ℕ → Type 0 = λ n. SweepsAcross c.args.around.now c.args.rule.now c.args.draws.now c.args.row.now c.args.behind.now k n c.args.own.now c.update_sites.new.own in
    subst P count
    (across-four c.args.around.now c.args.rule.now c.args.draws.now c.args.row.now c.args.behind.now k (lane_words c.pulls_across-six.result) c.args.own.now c.update_sites.new.own
    c.requires.behind (omega arith) (omega arith) (omega (arith, room, c.requires.own)) c.pulls_across-six.ensures.front c.pulls_across-six.ensures.back c.update_sites.ensures)
