-- The same bytes, of the packed parts of 64 samples.
use Rattle.std.specs.Prelude.{ℕ, ◌++◌, ◌≤◌, List, All, length}
use Rattle.std.specs.List.{flat_map}
use Rattle.plane_sweep.specs.declared.replica.Plane.{Plane}
use Rattle.plane_sweep.specs.declared.replica.Replica.{Replica}
use Rattle.plane_sweep.specs.declared.replica.Duo.{Duo}
use Rattle.plane_sweep.specs.declared.stand.PairWheels.{PairWheels}
use Rattle.spin_model.specs.Limits.{greatest_half_plane}
use Rattle.spin_model.specs.Words.{words_32, words_64}

unfoldable pub packed_plane : Plane → List ℕ
packed_plane plane = words_32 plane.wheel ++ words_64 plane.words

unfoldable pub packed_replica : Replica → List ℕ
packed_replica replica = replica.labels ++ flat_map packed_plane replica.planes

unfoldable pub packed_slot : Duo → List ℕ
packed_slot duo = packed_replica duo.first ++ packed_replica duo.second

unfoldable pub packed_pair : PairWheels → List ℕ
packed_pair pair = words_32 pair.first ++ words_32 pair.second

unfoldable pub packed_contents : List Duo → List PairWheels → List ℕ
packed_contents slots pairs = flat_map packed_slot slots ++ flat_map packed_pair pairs

-- a plane has at most the words of the greatest lattice's planes
abbrev pub IsShort : Plane → Type 0
IsShort plane = length plane.words ≤ greatest_half_plane

abbrev pub HasShortPlanes : Duo → Type 0
HasShortPlanes slot = All IsShort slot.first.planes × All IsShort slot.second.planes
