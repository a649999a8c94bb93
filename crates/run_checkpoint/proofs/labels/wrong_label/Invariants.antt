use Rattle.std.proofs.Common.{◌≡◌, ◌*◌, ◌-◌}
use Rattle.glass_edges.specs.Refusals.{first_of}
use Rattle.run_checkpoint.specs.Reading.{parts_in}
use Rattle.run_checkpoint.specs.Tests.{wrong_at}
use Rattle.run_checkpoint.proofs.labels.wrong_label.Given as goal

abbrev pub invariant-places : goal.invariant-places
invariant-places l =
    first_of (wrong_at l.slots (parts_in l.size l.slots l.bytes)) l.place (128 * l.slots - l.place)
    ≡ first_of (wrong_at l.slots (parts_in l.size l.slots l.bytes)) 0 (128 * l.slots)
