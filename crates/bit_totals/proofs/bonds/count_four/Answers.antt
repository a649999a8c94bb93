use Rattle.std.proofs.Common.{arith}
use Rattle.bit_totals.proofs.RowCounts.{four-seen}
use Rattle.bit_totals.proofs.bonds.count_four.Goals as goal

pub returns-clause-sum : goal.returns-clause-sum
returns-clause-sum c = λ b.
    let four = four-seen c.args.own.now c.args.around.now c.args.row.now c.args.k b c.pulls_of_four-six.result c.words_at-words.result
    c.pulls_of_four-six.ensures c.words_at-words.ensures.words in
    omega (arith, four, c.count_bonds.ensures.sum b)
