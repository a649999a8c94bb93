-- What the sweep of both replicas of a slot asks for.
use Rattle.std.specs.Prelude.{◌≡◌, ℕ, List, length, All}
use Rattle.coupling_set.specs.CouplingWords.{CouplingsView}
use Rattle.spin_model.specs.Lattice.{half_plane}
use Rattle.plane_sweep.specs.Packed.{FitsPlane}
use Rattle.plane_sweep.specs.declared.replica.Plane.{Plane}

-- the words of a plane may be swept by these planes of the other colour and these draws
pub record CanSweepWords (couplings : CouplingsView) (other : List Plane) (draws own : List ℕ) : Type 0 where
  pub own_sized : length own ≡ half_plane couplings.size
  pub draws_sized : length draws ≡ half_plane couplings.size
  pub count : length other ≡ couplings.size
  pub fit : All (FitsPlane couplings.size) other
