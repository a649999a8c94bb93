-- The bytes of a bank's checkpoint by its kind: the letters, the plan's digest, what stands in front of the slots, what each
-- slot and pair holds in the 64 samples, and what is kept behind. Numbers are big-endian and unsigned; those of energies and
-- overlaps are two's complements.
use Rattle.std.specs.Prelude.{ℕ, ◌-◌, ◌*◌, ◌/◌, ◌%◌, ◌++◌, Bool, ℤ, if◌then◌else◌, List, [], ◌∷◌, length, slice_index_or, codes}
use Rattle.std.specs.Int.{w32, cast_unsigned}
use Rattle.std.specs.List.{flat_map}
use Rattle.byteorder.specs.Endian.{big_bytes}
use Rattle.sha2.specs.Sha256.{sha256}
use Rattle.spin_model.specs.Lattice.{half_plane}
use Rattle.spin_model.specs.Steps.{table}
use Rattle.spin_model.specs.Words.{words_32, words_64}
use Rattle.scalar_rule.specs.Plan.{Plan, slots_of}
use Rattle.scalar_rule.specs.Epoch.{slot_at, pair_at}
use Rattle.scalar_rule.specs.Neighbours.{spin}
use Rattle.scalar_rule.specs.Ragged.{Position}
use Rattle.scalar_rule.specs.declared.plain_copy.PlainCopy.{PlainCopy}
use Rattle.scalar_rule.specs.declared.sample.PlainSlot.{PlainSlot}
use Rattle.scalar_rule.specs.declared.sample.PlainPair.{PlainPair}
use Rattle.scalar_rule.specs.declared.sample.Record.{Record}
use Rattle.run_plan.specs.CanonicalPlan.{canonical}
use Rattle.coupling_set.specs.BondsAsWords.{word_of}
use Rattle.plane_sweep.specs.Beginnings.{site_of}

-- ---- parts

-- the word of a site: bit b is set where the spin of sample b is +1
abbrev pub spin_word : (ℕ → List Bool) → ℕ → ℕ
spin_word spins site = word_of (λ b. spin (spins b) site) 64

-- plane k of a replica, that of colour k div l and z = k mod l: the 61 words of its generator, which serves all samples,
-- and then the words of its sites, in order of y, then x
unfoldable pub plane_bytes : ℕ → (ℕ → PlainCopy) → ℕ → List ℕ
plane_bytes l copies k =
    words_32 (slice_index_or (copies 0).wheels k [])
    ++ words_64 (table (λ j. spin_word (λ b. (copies b).spins) (site_of l (k / l) (k % l) j)) (half_plane l))

-- a replica: its label in each sample, sample 0 first, and then its planes
unfoldable pub replica_bytes : ℕ → (ℕ → PlainCopy) → List ℕ
replica_bytes l copies = table (λ b. (copies b).replica) 64 ++ flat_map (plane_bytes l copies) (table (λ k. k) (2 * l))

-- both replicas of a slot
unfoldable pub slot_bytes : ℕ → (ℕ → PlainSlot) → List ℕ
slot_bytes l slots = replica_bytes l (λ b. (slots b).first) ++ replica_bytes l (λ b. (slots b).second)

-- the exchange generators of a pair, which serve all samples
unfoldable pub pair_bytes : PlainPair → List ℕ
pair_bytes pair = words_32 pair.first ++ words_32 pair.second

-- n slots in order, and then the pairs between them
unfoldable pub contents : ℕ → ℕ → (ℕ → List PlainSlot) → List PlainPair → List ℕ
contents l n slots pairs =
    flat_map (λ t. slot_bytes l (λ b. slot_at (slots b) t)) (table (λ t. t) n)
    ++ flat_map (λ k. pair_bytes (pair_at pairs k)) (table (λ k. k) (n - 1))

-- a position: its epoch, and its phase, which is 2 where the slot waits for its partner and 0 where it is at rest
unfoldable pub position_bytes : Position → List ℕ
position_bytes p = big_bytes 8 p.epoch ++ ((if p.waits then 2 else 0) ∷ [])

abbrev pub signed_bytes : ℤ → List ℕ
signed_bytes z = big_bytes 4 (cast_unsigned w32 z)

-- a record: both energies, the overlap and both labels
unfoldable pub record_bytes : Record → List ℕ
record_bytes r =
    signed_bytes r.first_energy ++ (signed_bytes r.second_energy ++ (signed_bytes r.overlap ++ (r.first_replica ∷ r.second_replica ∷ [])))

-- bytes, and the digest of all of them
unfoldable pub sealed : List ℕ → List ℕ
sealed bytes = bytes ++ sha256 bytes

-- ---- kinds

-- how the slots of a bank stand: all at rest at one epoch; or each at its own position, with the records that are kept ahead
-- of the least completed epoch, of so many printed samples and of the last of each `every` epochs
pub data Standing : Type 0 where
  Level : (epoch : ℕ) → Standing
  Uneven : (samples every : ℕ) → (positions : List Position) → (pending : List Record) → Standing

abbrev pub level_kind : List ℕ
level_kind = codes "GLASSCK1"

abbrev pub uneven_kind : List ℕ
uneven_kind = codes "GLASSCK2"

-- the eight letters of the kind
abbrev pub letters : Standing → List ℕ
letters (Level epoch) = level_kind
letters (Uneven samples every positions pending) = uneven_kind

-- the size and the number of slots
unfoldable pub shape : Plan → List ℕ
shape plan = big_bytes 4 plan.size ++ big_bytes 4 (slots_of plan)

-- what stands in front of the slots
abbrev pub front : Plan → Standing → List ℕ
front plan (Level epoch) = big_bytes 8 epoch ++ shape plan
front plan (Uneven samples every positions pending) =
    shape plan ++ (big_bytes 4 samples ++ (big_bytes 8 every ++ (big_bytes 4 (length pending) ++ flat_map position_bytes positions)))

-- what is kept behind the pairs
abbrev pub kept : Standing → List ℕ
kept (Level epoch) = []
kept (Uneven samples every positions pending) = flat_map record_bytes pending

-- the states of 64 samples, which share how the slots stand, and the pairs
pub record PlainBank : Type 0 where
  pub standing : Standing
  pub slots : ℕ → List PlainSlot
  pub pairs : List PlainPair

unfoldable pub header : Plan → Standing → List ℕ
header plan standing = letters standing ++ (sha256 (canonical plan) ++ front plan standing)

unfoldable pub bank_encoding : Plan → PlainBank → List ℕ
bank_encoding plan bank =
    sealed (header plan bank.standing ++ (contents plan.size (slots_of plan) bank.slots bank.pairs ++ kept bank.standing))
