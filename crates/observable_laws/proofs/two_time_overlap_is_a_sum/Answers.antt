use Rattle.std.proofs.Common.{◌+◌}
use Rattle.aging_run.specs.Aging.{spins_after, two_time_overlap}
use Rattle.observable_laws.proofs.Products.{overlap-sum}
use Rattle.observable_laws.proofs.two_time_overlap_is_a_sum.Goals as goal

pub returns : goal.returns
unfolding two_time_overlap
returns c = λ d wait t replica. overlap-sum d.size (spins_after d wait replica) (spins_after d (wait + t) replica)
