-- The sums of a run as they are held, bank by bank of 64 samples and slot by slot, and what holds of them.
use Rattle.std.specs.Prelude.{◌≡◌, ℕ, ◌+◌, ◌-◌, ◌*◌, ◌/◌, ◌%◌, ◌<◌, ◌≤◌, List, [], length, slice_index_or}
use Rattle.scalar_rule.specs.Plan.{Plan}
use Rattle.scalar_rule.specs.declared.sample.Sample.{Sample}
use Rattle.measured_sums.specs.EpochBins.{bin_of}
use Rattle.measured_sums.specs.MeasuredSums.{epochs_in_bin}
use Rattle.measured_sums.specs.RunningSums.{RunningSums, sums_below}
use Rattle.measured_sums.specs.SumsText.{Heading, sums_text}
use Rattle.plane_sums.specs.Bins.{SumsView, bin_at, sum_in}
use Rattle.plane_sums.specs.Slots.{HaveSums}
use Rattle.sums_report.specs.declared.head.SumsHead.{SumsHead}

-- what the first line says
abbrev pub heading_of : SumsHead → Heading
heading_of head = record {
  size = head.size;
  slots = head.slots;
  samples = head.samples;
  rule = head.rule.now;
  every = head.every;
  from = head.from;
  to = head.to;
  digest = head.digest.now;
}

-- the sums of one slot and of sample b, by bin: sample b is sample b mod 64 of its bank
abbrev pub sums_of_slot : SumsView → ℕ → RunningSums
sums_of_slot slot b k quantity = sum_in (bin_at slot k) (b % 64) quantity

-- slot t of bank g
abbrev pub slot_in : List (List SumsView) → ℕ → ℕ → SumsView
slot_in banks g t = slice_index_or (slice_index_or banks g []) t (record { first = 0; bins = [] })

-- the sums of sample b in slot t
abbrev pub held_sums : List (List SumsView) → ℕ → ℕ → RunningSums
held_sums banks b t = sums_of_slot (slot_in banks (b / 64) t) b

-- a slot has each bin that has a measured epoch, and in each of its bins as many epochs as are measured
pub record HasBins (h : Heading) (slot : SumsView) : Type 0 where
  pub all : (k : ℕ) → 0 < epochs_in_bin h.every k h.from h.to → (slot.first ≤ k) × (k < slot.first + length slot.bins)
  pub epochs : (k : ℕ) → slot.first ≤ k → k < slot.first + length slot.bins → (bin_at slot k).epochs ≡ epochs_in_bin h.every k h.from h.to

-- there are banks for all samples, with all slots in each
pub record AreHeld (h : Heading) (banks : List (List SumsView)) : Type 0 where
  pub size : h.size ≤ 64
  pub samples : h.samples ≤ 64 * length banks
  pub slots : (g : ℕ) → g < length banks → length (slice_index_or banks g []) ≡ h.slots
  pub bins : (g t : ℕ) → g < length banks → t < h.slots → HasBins h (slot_in banks g t)

-- they are those of the samples
abbrev pub HoldSums : Heading → List (List SumsView) → (ℕ → ℕ → RunningSums) → Type 0
HoldSums h banks sums = (g t : ℕ) → g < length banks → t < h.slots → HaveSums h.size (λ m. sums (64 * g + m) t) (slot_in banks g t)

-- the text of what is held is that of the samples' sums
abbrev pub TextIsTheSamples : Type 0
TextIsTheSamples = (h : Heading) (banks : List (List SumsView)) (sums : ℕ → ℕ → RunningSums) → AreHeld h banks → HoldSums h banks sums
    → sums_text h (held_sums banks) ≡ sums_text h sums

-- a slot whose sums are those of a run, and whose bins go from that of the run's first epoch to that of its last, has the bins
abbrev pub RunsHaveBins : Type 0
RunsHaveBins = (h : Heading) (plan : ℕ → Plan) (start : ℕ → Sample) (t : ℕ) (slot : SumsView) → (start 0).epoch ≡ h.from
    → slot.first ≡ bin_of h.from → length slot.bins ≡ bin_of (h.to - 1) + 1 - bin_of h.from
    → HaveSums h.size (λ b. sums_below (plan b) (start b) h.every t h.to) slot → HasBins h slot
