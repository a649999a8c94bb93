use Rattle.std.proofs.Common.{◌≡◌, ◌-◌}
use Rattle.glass_edges.specs.Refusals.{first_of}
use Rattle.run_checkpoint.specs.UnevenDecoding.{wrong_place_at, epoch_in, phase_in}
use Rattle.run_checkpoint.proofs.uneven_checks.wrong_place.Given as goal

abbrev pub invariant-slots : goal.invariant-slots
invariant-slots l =
    first_of (wrong_place_at l.slots (epoch_in l.bytes) (phase_in l.bytes)) l.slot (l.slots - l.slot)
    ≡ first_of (wrong_place_at l.slots (epoch_in l.bytes) (phase_in l.bytes)) 0 l.slots
