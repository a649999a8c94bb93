-- The low bits are taken up by the row of one, and the high bits and what it carries by the row of two.
use Rattle.std.proofs.Common.{arith}
use Rattle.bit_totals.proofs.bonds.add_counts.Goals as goal

pub returns-clause-sum : goal.returns-clause-sum
returns-clause-sum c = λ s.
    omega (
      arith,
      c.add_two-front.ensures.sum s,
      c.add_two-back.ensures.sum s,
      c.add_two-first.ensures.sum s,
      c.add_two-second.ensures.sum s,
      c.add_two-fours.ensures.sum s,
      c.add_two.ensures.sum s,
    )
