use Rattle.std.proofs.Common.{◌≡◌, false}
use Rattle.std.specs.Prelude.{◌==◌}
use Rattle.run_checkpoint.specs.Reading.{parts_in}
use Rattle.run_checkpoint.specs.Tests.{some_below, label}
use Rattle.run_checkpoint.proofs.labels.is_wrong.Given as goal

abbrev pub invariant-slots : goal.invariant-slots
invariant-slots l =
    some_below (λ earlier. label (parts_in l.size l.slots l.bytes) earlier l.place.copy l.place.sample == label (parts_in l.size l.slots l.bytes) l.place.slot l.place.copy l.place.sample) l.earlier ≡ false
