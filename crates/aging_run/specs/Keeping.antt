-- The spins of a replica that are kept in another of the same size.
use Rattle.std.specs.Prelude.{◌≡◌, ℕ, List}
use Rattle.plane_sweep.specs.Packed.{plane_at, StandFits, FitsReplica}
use Rattle.plane_sweep.specs.declared.replica.Plane.{Plane}
use Rattle.scalar_rule.specs.Plan.{Plan}
use Rattle.aging_run.specs.declared.aging.Aging.TheInside.{Inside}

-- plane k gets the words of that plane of other planes, and has its own generator still
pub record KeepsPlane (planes : List Plane) (k : ℕ) (old new : Plane) : Type 0 where
  pub words : new.words ≡ (plane_at planes k).words
  pub generator : new.wheel ≡ old.wheel

-- there is room for the spins of any replica of the stand
abbrev pub HasRoom : Inside → Type 0
HasRoom aging = (plan : Plan) → StandFits plan aging.stand → FitsReplica plan.size aging.kept
