-- The lengths of the lists of a sample's state under a plan.
use Rattle.std.specs.Prelude.{◌≡◌, ℕ, ◌*◌, ◌<◌, List, length}
use Rattle.spin_model.specs.Lattice.{volume, IsLawfulSize}
use Rattle.scalar_rule.specs.Plan.{Plan, slots_of, pairs_of}
use Rattle.scalar_rule.specs.Epoch.{slot_at}
use Rattle.scalar_rule.specs.declared.plain_copy.PlainCopy.{PlainCopy}
use Rattle.scalar_rule.specs.declared.sample.PlainSlot.{PlainSlot}
use Rattle.scalar_rule.specs.declared.sample.Sample.{Sample}

-- the number of sites of some lattice
abbrev pub IsLatticeVolume : ℕ → Type 0
IsLatticeVolume n = (l : ℕ) × (IsLawfulSize l × (n ≡ volume l))

-- a replica has a spin for each site and a generator for each colour and plane
pub record FitsCopy (l : ℕ) (copy : PlainCopy) : Type 0 where
  pub spins : length copy.spins ≡ volume l
  pub wheels : length copy.wheels ≡ 2 * l

pub record FitsSlot (l : ℕ) (slot : PlainSlot) : Type 0 where
  pub first : FitsCopy l slot.first
  pub second : FitsCopy l slot.second

-- the plan's number of slots, and each slot fits
pub record FitSlots (plan : Plan) (slots : List PlainSlot) : Type 0 where
  pub count : length slots ≡ slots_of plan
  pub each : (t : ℕ) → t < slots_of plan → FitsSlot plan.size (slot_at slots t)

-- a state is of one of the bank's 64 samples, and has the plan's slots and pairs
pub record Fits (plan : Plan) (s : Sample) : Type 0 where
  pub sample : s.bit < 64
  pub slots : FitSlots plan s.slots
  pub pairs : length s.pairs ≡ pairs_of plan
