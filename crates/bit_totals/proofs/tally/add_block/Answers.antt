-- Two carries of sixteen make one of 32.
use Rattle.std.proofs.Common.{◌≡◌, ◌+◌, arith}
use Rattle.bit_totals.specs.Tallies.{mixed}
use Rattle.bit_totals.proofs.Tallying.{set-more-le}
use Rattle.bit_totals.proofs.tally.add_block.Goals as goal

pub add_one-requires-clause-room : goal.add_one-requires-clause-room
add_one-requires-clause-room c = λ b h.
    let word = mixed c.args.first.now c.args.second.now c.args.third.now in
    let at = c.args.at in
    let all : at + 64 + 64 ≡ at + 128 = omega arith in
    omega (arith, c.requires.room b h, c.sum_sixteen-a.ensures.sum b, rw all at (c.sum_sixteen-b.ensures.sum b), c.add_two-most.ensures.sum b, set-more-le word b at 128)

pub returns : goal.returns
returns c = λ b h.
    let at = c.args.at in
    let all : at + 64 + 64 ≡ at + 128 = omega arith in
    omega (arith, c.sum_sixteen-a.ensures.sum b, rw all at (c.sum_sixteen-b.ensures.sum b), c.add_two-most.ensures.sum b, c.add_one.ensures b h)
