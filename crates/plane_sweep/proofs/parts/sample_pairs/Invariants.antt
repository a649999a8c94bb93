use Rattle.std.proofs.Common.{◌≡◌, take, map}
use Rattle.plane_sweep.specs.Packed.{part_pair}
use Rattle.plane_sweep.proofs.parts.sample_pairs.Given as goal

abbrev pub invariant-pairs : goal.invariant-pairs
invariant-pairs l = l.parts.items ≡ map part_pair (take l.k l.pairs)
