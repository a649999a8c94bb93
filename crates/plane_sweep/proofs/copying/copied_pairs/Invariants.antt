use Rattle.std.proofs.Common.{◌≡◌, take}
use Rattle.plane_sweep.proofs.copying.copied_pairs.Given as goal

abbrev pub invariant-pairs : goal.invariant-pairs
invariant-pairs l = l.copies.items ≡ take l.k l.pairs
