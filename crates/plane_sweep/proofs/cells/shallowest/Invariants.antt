use Rattle.std.proofs.Common.{◌≡◌, map}
use Rattle.scalar_rule.specs.Positions.{least, done, position_in}
use Rattle.plane_sweep.specs.Uneven.{position_of}
use Rattle.plane_sweep.proofs.cells.shallowest.Given as goal

abbrev pub invariant-places : goal.invariant-places
invariant-places l = l.shallowest ≡ least (λ k. done (position_in (map position_of l.places) k)) l.t
