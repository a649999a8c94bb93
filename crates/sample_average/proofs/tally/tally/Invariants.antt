use Rattle.std.proofs.Common.{◌≡◌, length, take}
use Rattle.sample_average.specs.Tallies.{Tallies}
use Rattle.sample_average.proofs.tally.tally.Given as goal

abbrev pub invariant-rows : goal.invariant-rows
invariant-rows l = record {
  sized : length l.table ≡ length l.fn.table;
  told : Tallies l.header.samples l.blocks l.table (take l.row-index l.rows);
}
