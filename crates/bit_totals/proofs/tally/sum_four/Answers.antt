-- Four rows of places, counted by three adders.
use Rattle.std.proofs.Common.{◌+◌, refl, arith}
use Rattle.bit_totals.specs.Tallies.{mixed}
use Rattle.bit_totals.proofs.Tallying.{set-row}
use Rattle.bit_totals.proofs.tally.sum_four.Goals as goal

pub returns-clause-sum : goal.returns-clause-sum
returns-clause-sum c = λ b.
    let word = mixed c.args.first.now c.args.second.now c.args.third.now in
    let at = c.args.at in
    let r0 = set-row c.mixed_at-a.result word b at (at + 4) refl c.mixed_at-a.ensures.words in
    let r1 = set-row c.mixed_at-b.result word b (at + 4) (at + 8) (omega arith) c.mixed_at-b.ensures.words in
    let r2 = set-row c.mixed_at-c.result word b (at + 8) (at + 12) (omega arith) c.mixed_at-c.ensures.words in
    let r3 = set-row c.mixed_at-d.result word b (at + 12) (at + 16) (omega arith) c.mixed_at-d.ensures.words in
    omega (arith, c.add_two-front.ensures.sum b, c.add_two-back.ensures.sum b, c.add_two.ensures.sum b)
