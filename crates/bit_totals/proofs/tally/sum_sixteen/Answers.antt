-- Four times four rows, whose carries of four make carries of eight, and those one of sixteen.
use Rattle.std.proofs.Common.{◌≡◌, ◌+◌, arith}
use Rattle.bit_totals.proofs.tally.sum_sixteen.Goals as goal

pub returns-clause-sum : goal.returns-clause-sum
returns-clause-sum c = λ b.
    let at = c.args.at in
    let second : at + 16 + 16 ≡ at + 32 = omega arith in
    let third : at + 32 + 16 ≡ at + 48 = omega arith in
    let fourth : at + 48 + 16 ≡ at + 64 = omega arith in
    omega (
      arith,
      c.sum_four-a.ensures.sum b,
      rw second at (c.sum_four-b.ensures.sum b),
      c.add_two-front.ensures.sum b,
      rw third at (c.sum_four-c.ensures.sum b),
      rw fourth at (c.sum_four-d.ensures.sum b),
      c.add_two-back.ensures.sum b,
      c.add_two.ensures.sum b,
    )
