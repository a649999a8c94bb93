-- A number of three planes is below eight.
use Rattle.std.proofs.Common.{◌≡◌, length, arith}
use Rattle.multispin_word.proofs.Numbers.{number-lt}
use Rattle.bench_kernels.proofs.bit_passes.add_to_zero.Goals as goal

pub add_count-requires : goal.add_count-requires
add_count-requires c =
    let long : length c.args.count.now ≡ 3 = omega arith in
    (omega arith, (omega arith, λ k h. omega (arith, c.requires k h, number-lt c.args.count.now 3 k long)))
