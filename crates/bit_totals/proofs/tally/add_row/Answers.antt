-- One row of the places from one on.
use Rattle.std.proofs.Common.{◌+◌, refl, arith}
use Rattle.bit_totals.specs.Tallies.{mixed}
use Rattle.bit_totals.proofs.Tallying.{set-row, set-more-le}
use Rattle.bit_totals.proofs.tally.add_row.Goals as goal

pub add_one-requires-clause-room : goal.add_one-requires-clause-room
add_one-requires-clause-room c = λ b h.
    let word = mixed c.args.first.now c.args.second.now c.args.third.now in
    let at = c.args.at in
    let row = set-row c.row_from-row.result word b at (at + 4) refl c.row_from-row.ensures.words in
    omega (arith, c.requires.room b h, set-more-le word b at 4)

pub returns : goal.returns
returns c = λ b h.
    let word = mixed c.args.first.now c.args.second.now c.args.third.now in
    let at = c.args.at in
    let row = set-row c.row_from-row.result word b at (at + 4) refl c.row_from-row.ensures.words in
    omega (arith, c.add_one.ensures b h)
