use Rattle.std.proofs.Common.{◌∙◌}
use Rattle.std.proofs.lemmas.List.{length-set}
use Rattle.sample_average.proofs.Tallying.{tally-next}
use Rattle.sample_average.proofs.tally.tally.Goals as goal

pub rows-preserved : goal.rows-preserved
rows-preserved c = record {
  sized = length-set _ _ _ ∙ c.rows.invariant.sized;
  told = tally-next c.args.header.now c.args.blocks c.args.rows.now c.rows.row-index c.rows.table c.cell_of-cell.result c.with-sums.result c.requires.header c.requires.rows c.rows-test.true
      c.cell_of-cell.ensures.value (rw (c.rows.invariant.sized, c.requires.sized) c.cell_of-cell.ensures.within) c.with-sums.ensures c.rows.invariant.told;
}
