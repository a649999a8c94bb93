use Rattle.std.proofs.Common.{ap, refl, sym, ◌∙◌, arith}
use Rattle.std.proofs.lemmas.Simd.{put_chunk_whole}
use Rattle.pr_generator.specs.Rows.{state_of, from_row}
use Rattle.pr_generator.proofs.RowTurns.{xors-are_draws, rows-advance}
use Rattle.pr_generator.proofs.RowOrder.{from_row-are_rows, from_row-set, sums-at}
use Rattle.pr_generator.proofs.rows.turn_at.Goals as goal

pub returns-clause-moved : goal.returns-clause-moved
returns-clause-moved c =
    let place = c.args.place in
    let rows = from_row place c.args.rows.now in
    let are = from_row-are_rows c.args.rows.now place c.requires.rows (omega (arith, c.requires.place)) in
    let words = sums-at c.args.rows.now place _ _ _ _ c.requires.rows c.requires.place c.row_of.ensures c.requires.far c.row_of-behind.ensures c.sum_row-sums.ensures.sized c.sum_row-sums.ensures.sums in
    ap state_of (from_row-set c.args.rows.now place c.sum_row-sums.result (omega (arith, c.requires.rows.sized))) ∙ rows-advance rows c.sum_row-sums.result are words

pub returns-clause-drawn : goal.returns-clause-drawn
returns-clause-drawn c =
    let place = c.args.place in
    let rows = from_row place c.args.rows.now in
    let are = from_row-are_rows c.args.rows.now place c.requires.rows (omega (arith, c.requires.place)) in
    let words = sums-at c.args.rows.now place _ _ _ _ c.requires.rows c.requires.place c.row_of.ensures c.requires.far c.row_of-behind.ensures c.sum_row-sums.ensures.sized c.sum_row-sums.ensures.sums in
    put_chunk_whole c.args.out.now c.draw_row.result (c.requires.sized ∙ sym c.draw_row.ensures.sized)
    ∙ xors-are_draws rows c.sum_row-sums.result c.draw_row.result are words c.draw_row.ensures.sized (λ k below. c.draw_row.ensures.xors k below ∙ rw (c.requires.old, c.requires.far) refl)
