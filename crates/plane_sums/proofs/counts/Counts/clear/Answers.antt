-- No plane has a bit.
use Rattle.std.proofs.Common.{arith}
use Rattle.plane_sums.proofs.PlaceNumbers.{count-clear}
use Rattle.plane_sums.proofs.counts.Counts.clear.Goals as goal

pub returns : goal.returns
returns g c = λ k b h. count-clear c.planes.self.planes k b (λ j below. c.planes.invariant.done j k (omega (arith, c.planes.invariant.long)) h)
