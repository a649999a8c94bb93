-- The twelve words of a column in the lanes of three vectors.
use Rattle.std.proofs.Common.{arith}
use Rattle.bit_totals.proofs.RowCounts.{row-more-le, column-counted}
use Rattle.bit_totals.proofs.Tallying.{lanes-three, set_lanes-none}
use Rattle.bit_totals.proofs.bonds.add_column.Goals as goal

pub add_one-requires-clause-room : goal.add_one-requires-clause-room
add_one-requires-clause-room g c = λ b h.
    let own = c.args.own.now in
    let s = c.args.around.now in
    let first = c.args.first.now in
    let second = c.args.second.now in
    let k = c.args.k in
    let three = lanes-three c.full_adder_lanes.result.0 c.full_adder_lanes.result.1 c.load-front.result c.load-middle.result c.load-back.result b (λ i below. c.full_adder_lanes.ensures.sum i b below) in
    let column = column-counted own s first second k b c.pulls_of-a.result c.pulls_of-b.result c.load-front.result c.load-middle.result c.load-back.result
    c.pulls_of-a.ensures c.pulls_of-b.ensures c.load-front.ensures.same c.load-middle.ensures.same c.load-back.ensures.same in
    omega (arith, c.requires.room b h, set_lanes-none b, c.add_two-more.ensures.sum b, c.add_two-most.ensures.sum b, three, column, row-more-le own s first b k 1, row-more-le own s second b k 1)

pub returns : goal.returns
returns g c = λ b h.
    let own = c.args.own.now in
    let s = c.args.around.now in
    let first = c.args.first.now in
    let second = c.args.second.now in
    let k = c.args.k in
    let three = lanes-three c.full_adder_lanes.result.0 c.full_adder_lanes.result.1 c.load-front.result c.load-middle.result c.load-back.result b (λ i below. c.full_adder_lanes.ensures.sum i b below) in
    let column = column-counted own s first second k b c.pulls_of-a.result c.pulls_of-b.result c.load-front.result c.load-middle.result c.load-back.result
    c.pulls_of-a.ensures c.pulls_of-b.ensures c.load-front.ensures.same c.load-middle.ensures.same c.load-back.ensures.same in
    omega (arith, set_lanes-none b, c.add_two-more.ensures.sum b, c.add_two-most.ensures.sum b, three, column, c.add_one.ensures b h)
