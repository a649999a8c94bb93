-- A plane, a slot and a pair without words, which stand where a list has no item.
use Rattle.std.proofs.Common.{[]}
use Rattle.scalar_rule.specs.declared.sample.PlainSlot.{PlainSlot}
use Rattle.scalar_rule.specs.declared.sample.PlainPair.{PlainPair}
use Rattle.plane_sweep.specs.declared.replica.Plane.{Plane}
use Rattle.plane_sweep.specs.declared.replica.Duo.{Duo}
use Rattle.plane_sweep.specs.declared.stand.PairWheels.{PairWheels}

abbrev pub no_plane : Plane
no_plane = record { words = []; wheel = [] }

abbrev pub no_duo : Duo
no_duo = record { first = record { planes = []; labels = [] }; second = record { planes = []; labels = [] } }

abbrev pub no_wheels : PairWheels
no_wheels = record { first = []; second = [] }

abbrev pub no_slot : PlainSlot
no_slot = record { first = record { spins = []; wheels = []; replica = 0 }; second = record { spins = []; wheels = []; replica = 0 } }

abbrev pub no_pair : PlainPair
no_pair = record { first = []; second = [] }
