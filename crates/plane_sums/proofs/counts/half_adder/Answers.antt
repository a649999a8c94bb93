-- The third bit is 0.
use Rattle.std.proofs.Common.{arith}
use Rattle.std.proofs.lemmas.Nat.Bits.{bit_at-zero}
use Rattle.plane_sums.proofs.counts.half_adder.Goals as goal

pub returns : goal.returns
returns c = λ k. omega (arith, c.full_adder.ensures k, bit_at-zero k)
