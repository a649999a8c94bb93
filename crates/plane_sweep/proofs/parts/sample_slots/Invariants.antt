use Rattle.std.proofs.Common.{◌≡◌, take, map}
use Rattle.plane_sweep.specs.Packed.{part_slot}
use Rattle.plane_sweep.proofs.parts.sample_slots.Given as goal

abbrev pub invariant-slots : goal.invariant-slots
invariant-slots l = l.parts.items ≡ map (part_slot l.plan.size l.sample) (take l.t l.slots)
