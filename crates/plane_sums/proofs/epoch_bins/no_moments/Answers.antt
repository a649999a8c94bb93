-- Each number is 0.
use Rattle.std.proofs.Common.{ℤ, pos}
use Rattle.plane_sums.proofs.BinnedSums.{one-value-rows}
use Rattle.plane_sums.proofs.epoch_bins.no_moments.Goals as goal

pub returns : goal.returns
returns c = λ i k. one-value-rows {A = ℤ} 64 11 i k (pos 0)
