use Rattle.std.proofs.Common.{◌≡◌, map}
use Rattle.plane_sweep.specs.Uneven.{position_of}
use Rattle.scalar_rule.specs.Positions.{least, done, position_in}
use Rattle.run_checkpoint.specs.UnevenDecoding.{places_in}
use Rattle.run_checkpoint.proofs.uneven_checks.least_done.Given as goal

abbrev pub invariant-slots : goal.invariant-slots
invariant-slots l = l.least ≡ least (λ t. done (position_in (map position_of (places_in l.slots l.bytes)) t)) l.slot
