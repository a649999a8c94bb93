-- The packed state of 64 disorder samples: the state of one of them, what states a packed state stands for, and when it
-- fits a plan.
use Rattle.std.specs.Prelude.{◌≡◌, ℕ, ◌+◌, ◌*◌, ◌^◌, ◌<◌, Bool, List, [], map, length, slice_index, slice_index_or, All}
use Rattle.spin_model.specs.Words.{is_set, AreGeneratorWords}
use Rattle.spin_model.specs.Steps.{table}
use Rattle.spin_model.specs.Lattice.{volume, colour, z_of, place_in_plane, half_plane}
use Rattle.scalar_rule.specs.Plan.{Plan, slots_of, pairs_of}
use Rattle.scalar_rule.specs.Epoch.{slot_at}
use Rattle.scalar_rule.specs.declared.plain_copy.PlainCopy.{PlainCopy}
use Rattle.scalar_rule.specs.declared.sample.PlainSlot.{PlainSlot}
use Rattle.scalar_rule.specs.declared.sample.PlainPair.{PlainPair}
use Rattle.scalar_rule.specs.declared.sample.Sample.{Sample}
use Rattle.plane_sweep.specs.declared.replica.Plane.{Plane}
use Rattle.plane_sweep.specs.declared.replica.Replica.{Replica}
use Rattle.plane_sweep.specs.declared.replica.Duo.{Duo}
use Rattle.plane_sweep.specs.declared.stand.PairWheels.{PairWheels}
use Rattle.plane_sweep.specs.declared.stand.Stand.{Stand}

-- plane k of a list; one without words where there is none
abbrev pub plane_at : List Plane → ℕ → Plane
plane_at planes k = slice_index_or planes k (record { words = []; wheel = [] })

-- the word of site i: in plane colour L + z, where the words stand in order of y, then x
abbrev pub word_at : ℕ → List Plane → ℕ → ℕ
word_at l planes i = slice_index (plane_at planes (colour l i * l + z_of l i)).words (place_in_plane l i)

-- the spins of sample b in the order of the sites: +1 where bit b of the site's word is 1
unfoldable pub spins_of : ℕ → ℕ → List Plane → List Bool
spins_of l b planes = table (λ i. is_set (word_at l planes i) b) (volume l)

-- the words of the planes' generators, which serve all samples
abbrev pub generators_of : List Plane → List (List ℕ)
generators_of planes = map (λ (plane : Plane). plane.wheel) planes

-- the part of sample b in a replica: its spins, the generators and its label
abbrev pub part_copy : ℕ → ℕ → Replica → PlainCopy
part_copy l b replica = record {
  spins = spins_of l b replica.planes;
  wheels = generators_of replica.planes;
  replica = slice_index replica.labels b;
}

-- its part in both replicas of a slot
abbrev pub part_slot : ℕ → ℕ → Duo → PlainSlot
part_slot l b duo = record { first = part_copy l b duo.first; second = part_copy l b duo.second }

-- the exchange generators of a pair, which serve all samples
abbrev pub part_pair : PairWheels → PlainPair
part_pair pair = record { first = pair.first; second = pair.second }

-- its part in the packed state of a lattice of side l
unfoldable pub part : ℕ → ℕ → Stand → Sample
part l b stand = record {
  bit = b;
  epoch = stand.epoch;
  slots = map (part_slot l b) stand.slots;
  pairs = map part_pair stand.pairs;
}

-- a packed state stands for these states of its 64 samples
abbrev pub StandsFor : Plan → (ℕ → Sample) → Stand → Type 0
StandsFor plan states stand = (b : ℕ) → b < 64 → part plan.size b stand ≡ states b

-- f 0 to f (n - 1) are the numbers below n, each once
pub record Permutes (n : ℕ) (f : ℕ → ℕ) : Type 0 where
  pub below : (t : ℕ) → t < n → f t < n
  pub apart : (t u : ℕ) → t < n → u < n → f t ≡ f u → t ≡ u
  pub onto : (q : ℕ) → q < n → (t : ℕ) × (t < n) × (f t ≡ q)

-- the labels of n slots are the slots' numbers, each once, in each replica
pub record PermutesAt (n : ℕ) (slots : ℕ → PlainSlot) : Type 0 where
  pub first : Permutes n (λ t. (slots t).first.replica)
  pub second : Permutes n (λ t. (slots t).second.replica)

-- those of a sample
abbrev pub PermutesLabels : Plan → Sample → Type 0
PermutesLabels plan s = PermutesAt (slots_of plan) (λ t. slot_at s.slots t)

-- a plane has a word of 64 bits for each of its sites, and a generator
pub record FitsPlane (l : ℕ) (plane : Plane) : Type 0 where
  pub sized : length plane.words ≡ half_plane l
  pub in_range : All (λ word. word < 2 ^ 64) plane.words
  pub generator : AreGeneratorWords plane.wheel

-- a replica has a plane for each colour and z, and 64 labels
pub record FitsReplica (l : ℕ) (replica : Replica) : Type 0 where
  pub count : length replica.planes ≡ 2 * l
  pub planes : All (FitsPlane l) replica.planes
  pub labels : length replica.labels ≡ 64

pub record FitsDuo (l : ℕ) (duo : Duo) : Type 0 where
  pub first : FitsReplica l duo.first
  pub second : FitsReplica l duo.second

pub record ArePairGenerators (pair : PairWheels) : Type 0 where
  pub first : AreGeneratorWords pair.first
  pub second : AreGeneratorWords pair.second

-- a packed state has the plan's slots and pairs, and in each sample the labels permute
pub record StandFits (plan : Plan) (stand : Stand) : Type 0 where
  pub epoch : stand.epoch < 2 ^ 64
  pub slots : length stand.slots ≡ slots_of plan
  pub each_slot : All (FitsDuo plan.size) stand.slots
  pub pairs : length stand.pairs ≡ pairs_of plan
  pub each_pair : All ArePairGenerators stand.pairs
  pub labels : (b : ℕ) → b < 64 → PermutesLabels plan (part plan.size b stand)
