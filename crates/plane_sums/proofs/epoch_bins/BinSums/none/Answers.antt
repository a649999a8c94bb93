-- All numbers are 0.
use Rattle.std.proofs.Common.{refl, arith}
use Rattle.plane_sums.proofs.BinnedSums.{no-sums}
use Rattle.plane_sums.proofs.epoch_bins.BinSums.none.Goals as goal

pub returns-clause-zero : goal.returns-clause-zero
returns-clause-zero c = no-sums _ refl c.no_moments.ensures c.no_classes.ensures c.no_distances.ensures c.no_distances-2.ensures

pub returns-clause-bin : goal.returns-clause-bin
returns-clause-bin c = record {
  epochs = omega arith;
  moments = λ b k h few. rw (c.no_moments.ensures b k) (omega arith);
  classes = λ b k h few. rw (c.no_classes.ensures b k) (omega arith);
  axis = λ r b few h. rw (c.no_distances.ensures r b) (omega arith);
  face = λ r b few h. rw (c.no_distances-2.ensures r b) (omega arith);
}
