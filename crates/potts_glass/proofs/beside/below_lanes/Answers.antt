-- Each lane is all ones or zero, by its own draw.
use Rattle.std.proofs.Common.{nat_lt}
use Rattle.local_rule.proofs.Lanes.{tested-long, tested-at}
use Rattle.potts_glass.proofs.beside.below_lanes.Goals as goal

pub returns-clause-length : goal.returns-clause-length
returns-clause-length g c = tested-long nat_lt g.row.N c.args.draws.now c.args.threshold c.told-draws

pub returns-clause-below : goal.returns-clause-below
returns-clause-below g c = λ i b h l. tested-at nat_lt g.row.N c.args.draws.now c.args.threshold i b c.told-draws h l
