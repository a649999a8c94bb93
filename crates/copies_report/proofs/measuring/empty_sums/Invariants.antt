-- As many sums as passes.
use Rattle.std.proofs.Common.{◌≡◌, length}
use Rattle.copies_report.proofs.measuring.empty_sums.Given as goal

abbrev pub invariant-sums : goal.invariant-sums
invariant-sums l = length l.sums.items ≡ l.made
