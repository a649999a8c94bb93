-- The powers of two below the k-th are compared.
use Rattle.std.proofs.Common.{◌≡◌, ◌^◌, ◌≤◌, nat_le}
use Rattle.spin_model.specs.Steps.{count_below}
use Rattle.plane_sums.proofs.epoch_bins.bin_of.Given as goal

abbrev pub invariant-digits : goal.invariant-digits
invariant-digits l = record {
  power : l.power ≡ 2 ^ l.k;
  bin : l.bin ≡ count_below (λ k. nat_le (2 ^ k) l.epoch) l.k;
  few : l.bin ≤ l.k;
}
