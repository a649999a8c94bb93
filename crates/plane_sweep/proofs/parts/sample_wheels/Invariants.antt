use Rattle.std.proofs.Common.{◌≡◌, take}
use Rattle.plane_sweep.specs.Packed.{generators_of}
use Rattle.plane_sweep.proofs.parts.sample_wheels.Given as goal

abbrev pub invariant-planes : goal.invariant-planes
invariant-planes l = l.wheels.items ≡ generators_of (take l.k l.planes)
