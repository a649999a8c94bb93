use Rattle.std.proofs.Common.{◌≡◌, All, length}
use Rattle.run_checkpoint.specs.Unfilled.{HasWords}
use Rattle.run_checkpoint.proofs.unfilled.unfilled_planes.Given as goal

abbrev pub invariant-planes : goal.invariant-planes
invariant-planes l = (length l.planes.items ≡ l.k) × All (HasWords l.size) l.planes.items
