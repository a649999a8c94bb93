-- The carries of four go up from the row of four.
use Rattle.std.proofs.Common.{arith}
use Rattle.bit_totals.specs.Tallies.{mixed}
use Rattle.bit_totals.proofs.Tallying.{set-more-le}
use Rattle.bit_totals.proofs.tally.add_four.Goals as goal

pub add_one-requires-clause-room : goal.add_one-requires-clause-room
add_one-requires-clause-room c = λ b h.
    let word = mixed c.args.first.now c.args.second.now c.args.third.now in
    omega (arith, c.requires.room b h, c.sum_four-fours.ensures.sum b, set-more-le word b c.args.at 16)

pub returns : goal.returns
returns c = λ b h. omega (arith, c.sum_four-fours.ensures.sum b, c.add_one.ensures b h)
