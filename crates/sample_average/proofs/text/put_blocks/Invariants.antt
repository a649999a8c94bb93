use Rattle.glass_edges.specs.Writes.{HasPut}
use Rattle.sample_average.specs.Averages.{without_line, sums_of, rows_without, pieces}
use Rattle.sample_average.proofs.text.put_blocks.Given as goal

abbrev pub invariant-parts : goal.invariant-parts
invariant-parts g l = HasPut g.O.Sink l.fn.out l.out (pieces (λ block. without_line l.slot block (sums_of (rows_without l.averages l.slot block))) l.block)
