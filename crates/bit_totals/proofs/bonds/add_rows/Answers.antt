-- The columns are counted by eight, four and one.
use Rattle.std.proofs.Common.{◌≡◌, arith}
use Rattle.bit_totals.proofs.RowCounts.{row-none, row-le}
use Rattle.bit_totals.proofs.bonds.add_rows.Goals as goal

pub eights-init : goal.eights-init
eights-init g c = record {
  within = omega arith;
  counted = λ b h. omega (arith, row-none c.args.own.now c.args.around.now c.args.first.now b, row-none c.args.own.now c.args.around.now c.args.second.now b);
}

pub add_eight-requires-clause-room : goal.add_eight-requires-clause-room
add_eight-requires-clause-room g c = λ b h.
    let first = row-le c.args.own.now c.args.around.now c.args.first.now b c.eights.k in
    let second = row-le c.args.own.now c.args.around.now c.args.second.now b c.eights.k in
    omega (arith, c.requires.room b h, c.eights.invariant.counted b h, first, second)

pub eights-preserved : goal.eights-preserved
eights-preserved g c = record {
  within = omega arith;
  counted = λ b h. omega (arith, c.add_eight.ensures b h, c.eights.invariant.counted b h);
}

pub add_four-requires-clause-room : goal.add_four-requires-clause-room
add_four-requires-clause-room g c = λ b h.
    let first = row-le c.args.own.now c.args.around.now c.args.first.now b c.fours.k in
    let second = row-le c.args.own.now c.args.around.now c.args.second.now b c.fours.k in
    omega (arith, c.requires.room b h, c.fours.invariant.counted b h, first, second)

pub fours-preserved : goal.fours-preserved
fours-preserved g c = record {
  within = omega arith;
  counted = λ b h. omega (arith, c.add_four.ensures b h, c.fours.invariant.counted b h);
}

pub add_column-requires-clause-room : goal.add_column-requires-clause-room
add_column-requires-clause-room g c = λ b h.
    let first = row-le c.args.own.now c.args.around.now c.args.first.now b c.rest.k in
    let second = row-le c.args.own.now c.args.around.now c.args.second.now b c.rest.k in
    omega (arith, c.requires.room b h, c.rest.invariant.counted b h, first, second)

pub rest-preserved : goal.rest-preserved
rest-preserved g c = record {
  within = omega arith;
  counted = λ b h. omega (arith, c.add_column.ensures b h, c.rest.invariant.counted b h);
}

pub returns : goal.returns
returns g c = λ b h.
    let end : c.rest.k ≡ c.args.first.now.half = omega arith in
    rw end at (c.rest.invariant.counted b h)
