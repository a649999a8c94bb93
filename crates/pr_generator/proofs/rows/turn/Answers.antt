use Rattle.std.proofs.Common.{ap, ◌∙◌}
use Rattle.pr_generator.specs.Rows.{state_of}
use Rattle.pr_generator.proofs.RowTurns.{sums-are_words, xors-are_draws, rows-advance, rows-moved, rows-are_rows}
use Rattle.pr_generator.proofs.rows.turn.Goals as goal

pub returns-clause-rows : goal.returns-clause-rows
returns-clause-rows c =
    rw (rows-moved c.args.rows.now c.sum_row-sums.result c.told-rows) (rows-are_rows c.args.rows.now c.sum_row-sums.result c.requires c.sum_row-sums.ensures.sized)

pub returns-clause-moved : goal.returns-clause-moved
returns-clause-moved c =
    let words = sums-are_words c.args.rows.now c.sum_row-sums.result c.requires c.sum_row-sums.ensures.sized c.sum_row-sums.ensures.sums in
    ap state_of (rows-moved c.args.rows.now c.sum_row-sums.result c.told-rows) ∙ rows-advance c.args.rows.now c.sum_row-sums.result c.requires words

pub returns-clause-drawn : goal.returns-clause-drawn
returns-clause-drawn c =
    let words = sums-are_words c.args.rows.now c.sum_row-sums.result c.requires c.sum_row-sums.ensures.sized c.sum_row-sums.ensures.sums in
    xors-are_draws c.args.rows.now c.sum_row-sums.result c.draw_row.result c.requires words c.draw_row.ensures.sized c.draw_row.ensures.xors

pub returns-clause-last : goal.returns-clause-last
returns-clause-last c = sums-are_words c.args.rows.now c.sum_row-sums.result c.requires c.sum_row-sums.ensures.sized c.sum_row-sums.ensures.sums
