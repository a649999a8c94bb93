-- A power of two more is compared.
use Rattle.std.proofs.Common.{nat_le, ◌^◌, refl, arith}
use Rattle.plane_sums.proofs.BinnedSums.{no-digit, digit-more, power-more}
use Rattle.plane_sums.proofs.epoch_bins.bin_of.Goals as goal

pub digits-init : goal.digits-init
digits-init c = record {
  power = refl;
  bin = no-digit (λ k. nat_le (2 ^ k) c.args.epoch);
  few = omega arith;
}

pub digits-preserved : goal.digits-preserved
digits-preserved c =
    let known = c.digits.invariant in
    record {
      power = power-more c.digits.k c.digits.power known.power;
      bin = digit-more c.args.epoch c.digits.k c.digits.power c.digits.bin c.one_if-bin.result known.power known.bin c.one_if-bin.ensures.value;
      few = omega (arith, known.few, c.one_if-bin.ensures.within);
    }
