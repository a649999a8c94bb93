use Rattle.std.proofs.Common.{drop, ◌*◌}
use Rattle.run_checkpoint.specs.Reading.{pair_in}
use Rattle.run_checkpoint.proofs.Items.{Filled}
use Rattle.run_checkpoint.proofs.reading.fill_pairs.Given as goal

abbrev pub invariant-pairs : goal.invariant-pairs
invariant-pairs l = Filled (λ i. pair_in (drop (488 * i) l.rest)) l.k l.fn.pairs l.pairs
