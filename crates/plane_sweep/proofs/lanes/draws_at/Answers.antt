use Rattle.std.proofs.Common.{◌+◌, ◌-◌, arith}
use Rattle.plane_sweep.proofs.FourLanes.{chunk-at}
use Rattle.plane_sweep.proofs.lanes.draws_at.Goals as goal

pub returns : goal.returns
returns g c = λ i below. chunk-at g.row.N c.args.draws.now c.args.at (c.args.at + g.row.N - c.args.at) i (omega arith) below
