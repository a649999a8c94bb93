-- A slot whose epoch is swept, and the packed sums of a slot as the sums of its samples.
use Rattle.std.specs.Prelude.{◌≡◌, ℕ, ◌+◌, ◌<◌, ◌≤◌, List, length}
use Rattle.coupling_set.specs.CouplingWords.{bonds_of}
use Rattle.spin_model.specs.Limits.{last_epoch}
use Rattle.multispin_word.specs.Planes.{number}
use Rattle.scalar_rule.specs.Plan.{Plan}
use Rattle.scalar_rule.specs.Sums.{unsatisfied}
use Rattle.scalar_rule.specs.declared.sample.Sample.{Sample}
use Rattle.plane_sweep.specs.Packed.{part_slot, spins_of, FitsDuo}
use Rattle.plane_sweep.specs.declared.replica.Replica.{Replica}
use Rattle.measured_sums.specs.MeasuredSums.{Observed, Quantity, observed_in}
use Rattle.measured_sums.specs.RunningSums.{RunningSums, sums_below}
use Rattle.plane_sums.specs.Bins.{SumsView, bin_at, sum_in}
use Rattle.plane_sums.specs.Measured.{HasSum}
use Rattle.plane_sums.specs.declared.measuring.SweptSlot.{SweptSlot}

-- planes have how many bonds of a replica are unsatisfied in each sample
abbrev pub CountBonds : Plan → Replica → List ℕ → Type 0
CountBonds plan replica planes = (b : ℕ) → b < 64 → number planes b ≡ unsatisfied plan.size (bonds_of plan.couplings b) (spins_of plan.size b replica.planes)

-- the replicas fit the plan's lattice, and the planes have their bonds
pub record IsSwept (slot : SweptSlot) : Type 0 where
  pub duo : FitsDuo slot.plan.now.size slot.duo.now
  pub first : CountBonds slot.plan.now slot.duo.now.first slot.first.now.words
  pub second : CountBonds slot.plan.now slot.duo.now.second slot.second.now.words

-- what is observed of the slot in sample b
abbrev pub seen_in : SweptSlot → ℕ → Observed
seen_in slot b = observed_in slot.plan.now b (part_slot slot.plan.now.size b slot.duo.now)

-- packed sums have those of each sample, in each of their bins
abbrev pub HaveSums : ℕ → (ℕ → RunningSums) → SumsView → Type 0
HaveSums l sums packed = (b k : ℕ) (quantity : Quantity) → b < 64 → packed.first ≤ k → k < packed.first + length packed.bins → HasSum l quantity
    → sum_in (bin_at packed k) b quantity ≡ sums b k quantity

-- where they have those of runs, each bin takes an epoch more
abbrev pub RunsHaveRoom : Type 0
RunsHaveRoom = (plan : Plan) (start : ℕ → Sample) (every t e k : ℕ) (packed : SumsView) → e < last_epoch → packed.first ≤ k → k < packed.first + length packed.bins
    → HaveSums plan.size (λ b. sums_below plan (start b) every t e) packed → (bin_at packed k).epochs < last_epoch
