-- Packed states whose memory is all there, and whose contents are still to be read.
use Rattle.std.specs.Prelude.{ℕ, ◌≡◌, ◌-◌, ◌*◌, All, length}
use Rattle.spin_model.specs.Lattice.{half_plane}
use Rattle.plane_sweep.specs.declared.replica.Plane.{Plane}
use Rattle.plane_sweep.specs.declared.replica.Replica.{Replica}
use Rattle.plane_sweep.specs.declared.replica.Duo.{Duo}
use Rattle.plane_sweep.specs.declared.stand.Stand.{Stand}

-- a plane of the lattice of side l has its words
abbrev pub HasWords : ℕ → Plane → Type 0
HasWords l plane = length plane.words ≡ half_plane l

pub record HasPlanes (l : ℕ) (replica : Replica) : Type 0 where
  pub count : length replica.planes ≡ 2 * l
  pub planes : All (HasWords l) replica.planes

pub record HasReplicas (l : ℕ) (slot : Duo) : Type 0 where
  pub first : HasPlanes l slot.first
  pub second : HasPlanes l slot.second

-- n slots and their pairs
pub record HasRoom (l n : ℕ) (stand : Stand) : Type 0 where
  pub count : length stand.slots ≡ n
  pub slots : All (HasReplicas l) stand.slots
  pub pairs : length stand.pairs ≡ n - 1
