use Rattle.std.proofs.Common.{◌≡◌, take}
use Rattle.plane_sweep.proofs.copying.copied_planes.Given as goal

abbrev pub invariant-planes : goal.invariant-planes
invariant-planes l = l.copies.items ≡ take l.k l.planes
