-- As many sums as passes.
use Rattle.std.proofs.Common.{◌≡◌, length}
use Rattle.quench_report.proofs.measuring.empty_pairs.Given as goal

abbrev pub invariant-pairs : goal.invariant-pairs
invariant-pairs l = length l.pairs.items ≡ l.made
