-- Two counts of four sites, whose carries go up from the row of four.
use Rattle.std.proofs.Common.{arith}
use Rattle.bit_totals.proofs.RowCounts.{row-more-le}
use Rattle.bit_totals.proofs.bonds.add_four.Goals as goal

pub add_last_carries-requires-clause-room : goal.add_last_carries-requires-clause-room
add_last_carries-requires-clause-room g c = λ b h.
    omega (
      arith,
      c.requires.room b h,
      c.count_four-a.ensures.sum b,
      c.count_four-b.ensures.sum b,
      c.add_counts-last.ensures.sum b,
      row-more-le c.args.own.now c.args.around.now c.args.first.now b c.args.k 4,
      row-more-le c.args.own.now c.args.around.now c.args.second.now b c.args.k 4,
    )

pub returns : goal.returns
returns g c = λ b h.
    omega (
      arith,
      c.count_four-a.ensures.sum b,
      c.count_four-b.ensures.sum b,
      c.add_counts-last.ensures.sum b,
      c.add_last_carries.ensures b h,
    )
