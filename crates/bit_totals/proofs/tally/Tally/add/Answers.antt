-- The places are counted block by block and row by row; those past the end have no bit.
use Rattle.std.proofs.Common.{◌≡◌, ◌+◌, ◌-◌, length, ◌∙◌, arith}
use Rattle.spin_model.proofs.Tables.{count_below-zero}
use Rattle.multispin_word.specs.Planes.{is_set}
use Rattle.bit_totals.specs.Tallies.{mixed}
use Rattle.bit_totals.proofs.Tallying.{set-le, set-past}
use Rattle.bit_totals.proofs.tally.Tally.add.Goals as goal

pub long_blocks-init : goal.long_blocks-init
long_blocks-init c =
    let word = mixed c.args.first.now c.args.second.now c.args.third.now in
    record {
      within = omega arith;
      counted = λ b h. omega (arith, count_below-zero (λ j. is_set (word j) b));
    }

pub add_block-requires-clause-room : goal.add_block-requires-clause-room
add_block-requires-clause-room c = λ b h.
    let word = mixed c.args.first.now c.args.second.now c.args.third.now in
    omega (arith, c.requires.room b h, c.long_blocks.invariant.counted b h, set-le word b c.long_blocks.at)

pub add_four-requires-clause-room : goal.add_four-requires-clause-room
add_four-requires-clause-room c = λ b h.
    let word = mixed c.args.first.now c.args.second.now c.args.third.now in
    omega (arith, c.requires.room b h, c.fours.invariant.counted b h, set-le word b c.fours.at)

pub add_row-requires-clause-room : goal.add_row-requires-clause-room
add_row-requires-clause-room c = λ b h.
    let word = mixed c.args.first.now c.args.second.now c.args.third.now in
    omega (arith, c.requires.room b h, c.rows.invariant.counted b h, set-le word b c.rows.at)

pub returns : goal.returns
returns c = λ b h.
    let first = c.args.first.now in
    let past = c.rows.at - length first in
    let end : c.rows.at ≡ past + length first = omega arith in
    let none = set-past first c.args.second.now c.args.third.now b past c.requires.second c.requires.third in
    let counted = rw end at (c.rows.invariant.counted b h) in
    counted ∙ omega (arith, none)
