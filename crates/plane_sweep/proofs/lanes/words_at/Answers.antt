use Rattle.std.proofs.Common.{◌+◌, ◌-◌, arith}
use Rattle.plane_sweep.proofs.FourLanes.{chunk-at}
use Rattle.plane_sweep.proofs.lanes.words_at.Goals as goal

pub returns-clause-words : goal.returns-clause-words
returns-clause-words g c = λ i below. chunk-at g.row.N c.args.words.now c.args.at (c.args.at + g.row.N - c.args.at) i (omega arith) below
