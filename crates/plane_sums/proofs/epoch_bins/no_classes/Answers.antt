-- Each number is 0.
use Rattle.std.proofs.Common.{ℕ}
use Rattle.plane_sums.proofs.BinnedSums.{one-value-rows}
use Rattle.plane_sums.proofs.epoch_bins.no_classes.Goals as goal

pub returns : goal.returns
returns c = λ b k. one-value-rows {A = ℕ} 64 32 b k 0
