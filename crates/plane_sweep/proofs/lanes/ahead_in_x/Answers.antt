use Rattle.std.proofs.Common.{◌+◌, bit_xor, refl, arith}
use Rattle.local_rule.proofs.Lanes.{long, at}
use Rattle.plane_sweep.specs.PlaneSweep.{right_column}
use Rattle.plane_sweep.proofs.FourLanes.{pulled}
use Rattle.plane_sweep.proofs.lanes.ahead_in_x.Goals as goal

pub returns-clause-length : goal.returns-clause-length
returns-clause-length c = long bit_xor c.four_ahead.result c.words_at.result c.four_ahead.ensures.length c.words_at.ensures.length

pub returns-clause-words : goal.returns-clause-words
returns-clause-words c = λ i lane.
    let s = c.args.around.now in
    let row = c.args.row.now in
    let k = c.args.k in
    rw (at bit_xor c.four_ahead.result c.words_at.result i c.four_ahead.ensures.length c.words_at.ensures.length lane, c.four_ahead.ensures.words i lane, c.words_at.ensures.words i lane)
    (pulled s.here.now s.ahead_x.now (row.here + right_column row (k + i)) (row.here + k + i) (row.here + right_column row (k + i)) (row.here + (k + i)) refl (omega arith))
