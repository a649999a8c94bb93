use Rattle.std.proofs.Common.{◌≡◌, take}
use Rattle.plane_sweep.proofs.copying.copied_slots.Given as goal

abbrev pub invariant-slots : goal.invariant-slots
invariant-slots l = l.copies.items ≡ take l.t l.slots
