use Rattle.std.proofs.Common.{◌≡◌, length}
use Rattle.run_checkpoint.proofs.unfilled.unfilled_pairs.Given as goal

abbrev pub invariant-pairs : goal.invariant-pairs
invariant-pairs l = length l.pairs.items ≡ l.k
