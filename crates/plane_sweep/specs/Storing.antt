-- What a store of one sample changes, from words to slots.
use Rattle.std.specs.Prelude.{◌≡◌, ◌≢◌, ℕ, ◌/◌, ◌%◌, ◌^◌, ◌<◌, ◌≤◌, ◌==◌, if◌then◌else◌, Bool, List, [], length, slice_index_or}
use Rattle.spin_model.specs.Lattice.{half_plane}
use Rattle.spin_model.specs.Words.{is_set}
use Rattle.scalar_rule.specs.Neighbours.{spin}
use Rattle.scalar_rule.specs.declared.plain_copy.PlainCopy.{PlainCopy}
use Rattle.scalar_rule.specs.declared.sample.PlainSlot.{PlainSlot}
use Rattle.scalar_rule.specs.declared.sample.PlainPair.{PlainPair}
use Rattle.plane_sweep.specs.declared.replica.Plane.{Plane}
use Rattle.plane_sweep.specs.declared.replica.Replica.{Replica}
use Rattle.plane_sweep.specs.declared.replica.Duo.{Duo}
use Rattle.plane_sweep.specs.declared.stand.PairWheels.{PairWheels}
use Rattle.plane_sweep.specs.Packed.{part_copy, part_slot, part_pair, FitsPlane, FitsReplica, FitsDuo, ArePairGenerators}
use Rattle.plane_sweep.specs.Beginnings.{site_of}
use Rattle.plane_sweep.specs.Sharing.{sharing_copy, sharing_slot}

-- a list after the changes at its first n places, each of which turns an item into another
pub record Changed {A : Type 0} (Becomes : ℕ → A → A → Type 0) (n : ℕ) (old new : List A) : Type 0 where
  pub sized : length new ≡ length old
  pub done : (k : ℕ) (d : A) → k < n → Becomes k (slice_index_or old k d) (slice_index_or new k d)
  pub kept : (k : ℕ) (d : A) → n ≤ k → slice_index_or new k d ≡ slice_index_or old k d

-- a word after a sample's spin is written: that bit is the spin, and the others are as they were
pub record StoresWord (bit : ℕ) (up : Bool) (old new : ℕ) : Type 0 where
  pub in_range : new < 2 ^ 64
  pub bits : (b : ℕ) → b < 64 → is_set new b ≡ (if b == bit then up else is_set old b)

-- the words of plane z of colour c after a sample's spins are written
abbrev pub StoresWords : ℕ → ℕ → List Bool → ℕ → ℕ → ℕ → List ℕ → List ℕ → Type 0
StoresWords l bit spins c z n old new = Changed (λ k. StoresWord bit (spin spins (site_of l c z k))) n old new

-- a plane after a sample's spins and a generator are written
pub record StoresPlane (l bit : ℕ) (spins : List Bool) (wheels : List (List ℕ)) (k : ℕ) (old new : Plane) : Type 0 where
  pub fits : FitsPlane l new
  pub words : StoresWords l bit spins (k / l) (k % l) (half_plane l) old.words new.words
  pub generator : new.wheel ≡ slice_index_or wheels k []

-- a replica after a sample's is written into its bit: the others keep their spins and labels
pub record StoresReplica (l bit : ℕ) (copy : PlainCopy) (old new : Replica) : Type 0 where
  pub fits : FitsReplica l new
  pub own : part_copy l bit new ≡ copy
  pub others : (b : ℕ) → b < 64 → b ≢ bit → part_copy l b new ≡ sharing_copy copy (part_copy l b old)

-- both replicas of a slot
pub record StoresDuo (l bit : ℕ) (slot : PlainSlot) (old new : Duo) : Type 0 where
  pub fits : FitsDuo l new
  pub own : part_slot l bit new ≡ slot
  pub others : (b : ℕ) → b < 64 → b ≢ bit → part_slot l b new ≡ sharing_slot slot (part_slot l b old)

-- the exchange generators of a pair
pub record StoresPair (pair : PlainPair) (old new : PairWheels) : Type 0 where
  pub fits : ArePairGenerators new
  pub own : part_pair new ≡ pair
