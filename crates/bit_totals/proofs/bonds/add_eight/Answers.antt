-- Four counts of four sites, whose carries go up from the row of four.
use Rattle.std.proofs.Common.{◌≡◌, ◌+◌, arith}
use Rattle.bit_totals.proofs.RowCounts.{row-more-le}
use Rattle.bit_totals.proofs.bonds.add_eight.Goals as goal

pub add_carries-requires-clause-room : goal.add_carries-requires-clause-room
add_carries-requires-clause-room g c = λ b h.
    let eight : c.args.k + 4 + 4 ≡ c.args.k + 8 = omega arith in
    omega (
      arith,
      c.requires.room b h,
      c.count_four-a.ensures.sum b,
      rw eight at (c.count_four-b.ensures.sum b),
      c.count_four-c.ensures.sum b,
      rw eight at (c.count_four-d.ensures.sum b),
      c.add_counts-front.ensures.sum b,
      c.add_counts-back.ensures.sum b,
      row-more-le c.args.own.now c.args.around.now c.args.first.now b c.args.k 8,
      row-more-le c.args.own.now c.args.around.now c.args.second.now b c.args.k 8,
    )

pub returns : goal.returns
returns g c = λ b h.
    let eight : c.args.k + 4 + 4 ≡ c.args.k + 8 = omega arith in
    omega (
      arith,
      c.count_four-a.ensures.sum b,
      rw eight at (c.count_four-b.ensures.sum b),
      c.count_four-c.ensures.sum b,
      rw eight at (c.count_four-d.ensures.sum b),
      c.add_counts-front.ensures.sum b,
      c.add_counts-back.ensures.sum b,
      c.add_carries.ensures b h,
    )
