-- Each lane is all ones or zero, by its own draw.
use Rattle.std.proofs.lemmas.Simd.{Each1-get_or}
use Rattle.std.proofs.Common.{Fits, w32, ◌<◌, ◌^◌, of_z, w64, rules, slice_index, ◌∙◌, arith}
use mir.Val.{SFits}
use lib.Lanes.{Each1}
use Rattle.local_rule.proofs.Lanes.{below, tested-long, below-at}
use Rattle.local_rule.proofs.vectors.below_lanes.Goals as goal

pub returns-clause-length : goal.returns-clause-length
returns-clause-length g c = tested-long below g.row.N c.args.draws.now (of_z w64 c.limit-limit.result) c.told-draws

pub returns-clause-below : goal.returns-clause-below
returns-clause-below g c = λ i b h l.
    let draws = c.args.draws.now in
    let fits : SFits w64 c.limit-limit.result = record { sfits = c.limit-limit.type_inv } in
    let each : Each1 (Fits w32) draws = search rules in
    let few : slice_index draws i < 2 ^ 32 = (Each1-get_or (Fits w32) draws i 0 (omega arith) each).fits in
    below-at g.row.N draws c.limit-limit.result i b c.told-draws fits h l few ∙ c.limit-limit.ensures (slice_index draws i) few
