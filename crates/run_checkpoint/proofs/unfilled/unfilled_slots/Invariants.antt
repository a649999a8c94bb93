use Rattle.std.proofs.Common.{◌≡◌, All, length}
use Rattle.run_checkpoint.specs.Unfilled.{HasReplicas}
use Rattle.run_checkpoint.proofs.unfilled.unfilled_slots.Given as goal

abbrev pub invariant-slots : goal.invariant-slots
invariant-slots l = (length l.slots.items ≡ l.t) × All (HasReplicas l.size) l.slots.items
