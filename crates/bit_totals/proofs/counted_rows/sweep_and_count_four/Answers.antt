-- The sites' six words serve their new spins and their bonds.
use Rattle.std.proofs.Common.{arith}
use Rattle.local_rule.specs.SiteBits.{lane_words}
use Rattle.plane_sweep.proofs.RowSweeps.{row-sites}
use Rattle.bit_totals.proofs.RowCounts.{four-seen}
use Rattle.bit_totals.proofs.counted_rows.sweep_and_count_four.Goals as goal

pub returns-clause-swept : goal.returns-clause-swept
returns-clause-swept g c =
    row-sites c.args.lent.now.around c.args.lent.now.rule c.args.lent.now.draws.now c.args.row.now 4 c.args.k (lane_words c.pulls_of_four-six.result) c.args.own.now c.update_sites.new.own
    c.pulls_of_four-six.ensures c.update_sites.ensures

pub returns-clause-counted : goal.returns-clause-counted
returns-clause-counted g c = λ b.
    let four = four-seen c.update_sites.new.own c.args.lent.now.around c.args.row.now c.args.k b c.pulls_of_four-six.result c.words_at-words.result
    c.pulls_of_four-six.ensures c.words_at-words.ensures.words in
    omega (arith, four, c.count_bonds.ensures.sum b)
