-- What a packed state is made of when a run begins: its planes, replicas, slots and pairs, each for all 64 samples of
-- a bank.
use Rattle.std.specs.Prelude.{◌≡◌, ℕ, ◌+◌, ◌*◌, ◌/◌, ◌%◌, ◌^◌, ◌<◌, Bool, List, length, slice_index, slice_index_or, All}
use Rattle.spin_model.specs.Words.{is_set}
use Rattle.spin_model.specs.Stream.{draw}
use Rattle.spin_model.specs.Seeding.{sweep_words}
use Rattle.spin_model.specs.Lattice.{half_plane, half_volume, from_compact}
use Rattle.scalar_rule.specs.Neighbours.{spin}
use Rattle.scalar_rule.specs.Opening.{start_spins, opening_copy, opening_slot, opening_pair}
use Rattle.scalar_rule.specs.Plan.{Plan}
use Rattle.scalar_rule.specs.declared.sample.Start.{Start}
use Rattle.plane_sweep.specs.declared.replica.Plane.{Plane}
use Rattle.plane_sweep.specs.declared.replica.Replica.{Replica}
use Rattle.plane_sweep.specs.declared.replica.Duo.{Duo}
use Rattle.plane_sweep.specs.declared.stand.PairWheels.{PairWheels}
use Rattle.plane_sweep.specs.Packed.{part_copy, part_slot, part_pair, FitsPlane, FitsReplica, FitsDuo, ArePairGenerators}

-- a list of n items, each of which is what it must be at its place
pub record Each {A : Type 0} (Is : ℕ → A → Type 0) (n : ℕ) (items : List A) : Type 0 where
  pub sized : length items ≡ n
  pub each : (k : ℕ) (d : A) → k < n → Is k (slice_index_or items k d)

-- the site of word k in plane z of colour c
abbrev pub site_of : ℕ → ℕ → ℕ → ℕ → ℕ
site_of l c z k = from_compact l (c * half_volume l + z * half_plane l + k)

-- words of 64 bits for the sites of a plane
pub record ArePlaneWords (l : ℕ) (words : List ℕ) : Type 0 where
  pub sized : length words ≡ half_plane l
  pub in_range : All (λ word. word < 2 ^ 64) words

-- bit b of each word is the spin of sample b at the word's site
abbrev pub HasSpins : ℕ → (ℕ → List Bool) → ℕ → ℕ → List ℕ → Type 0
HasSpins l spins c z words = (b k : ℕ) → b < 64 → k < half_plane l → is_set (slice_index words k) b ≡ spin (spins b) (site_of l c z k)

-- the words of a plane at a random start, by the draws from the plane's first site on: two draws a site, and bit b is bit
-- b mod 32 of the first or of the second of them
abbrev pub HasDraws : ℕ → List ℕ → ℕ → ℕ → List ℕ → Type 0
HasDraws l w c z words = (b k : ℕ) → b < 64 → k < half_plane l
    → is_set (slice_index words k) b ≡ is_set (draw w (2 * (site_of l c z k % (l * l)) + b / 32)) (b % 32)

pub record BeginsPlane (plan : Plan) (start : Start) (bank slot replica k : ℕ) (plane : Plane) : Type 0 where
  pub fits : FitsPlane plan.size plane
  pub spins : HasSpins plan.size (λ b. start_spins plan start bank b slot replica) (k / plan.size) (k % plan.size) plane.words
  pub generator : plane.wheel ≡ sweep_words plan.seed slot replica (k / plan.size) (k % plan.size)

pub record BeginsReplica (plan : Plan) (start : Start) (bank slot r : ℕ) (replica : Replica) : Type 0 where
  pub fits : FitsReplica plan.size replica
  pub parts : (b : ℕ) → b < 64 → part_copy plan.size b replica ≡ opening_copy plan start bank b slot r

pub record BeginsDuo (plan : Plan) (start : Start) (bank slot : ℕ) (duo : Duo) : Type 0 where
  pub fits : FitsDuo plan.size duo
  pub parts : (b : ℕ) → b < 64 → part_slot plan.size b duo ≡ opening_slot plan start bank b slot

pub record BeginsPair (plan : Plan) (bank k : ℕ) (pair : PairWheels) : Type 0 where
  pub fits : ArePairGenerators pair
  pub parts : part_pair pair ≡ opening_pair plan bank k
