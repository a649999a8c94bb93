-- The four full adders keep the sum of the six bits.
use Rattle.std.proofs.Common.{arith}
use Rattle.std.proofs.lemmas.Nat.Bits.{bit_at-zero}
use Rattle.bit_compare.proofs.Adding.{count-lists}
use Rattle.bit_compare.proofs.count.count6.Goals as goal

pub returns : goal.returns
returns c = λ k.
    let planes = count-lists c.full_adder-ones.result.0 c.full_adder-twos.result.0 c.full_adder-twos.result.1 k in
    rw planes (omega (
      arith,
      c.full_adder-front.ensures k,
      c.full_adder-back.ensures k,
      c.full_adder-ones.ensures k,
      c.full_adder-twos.ensures k,
      bit_at-zero k,
    ))
