-- Aging after a quench: how far a replica's spins still are those that it had after a waiting time, and the text that says so
-- (docs/specification/aging.md).
use Rattle.std.specs.Prelude.{ℕ, ℤ, ◌+◌, ◌<◌, ◌≤◌, Bool, List, ◌++◌, codes, decimal, length, flat_map, slice_index, All}
use Rattle.std.specs.Fmt.{signed_decimal}
use Rattle.spin_model.specs.Limits.{most_sweeps}
use Rattle.spin_model.specs.Steps.{table}
use Rattle.scalar_rule.specs.Epoch.{slot_at}
use Rattle.scalar_rule.specs.Plan.{Plan, slots_of, dynamics_of}
use Rattle.scalar_rule.specs.Replica.{configuration_of}
use Rattle.scalar_rule.specs.Sums.{overlap}
use Rattle.scalar_rule.specs.Sweep.{Dynamics, sweeps}
use Rattle.scalar_rule.specs.declared.plain_copy.PlainCopy.{PlainCopy}
use Rattle.scalar_rule.specs.declared.sample.PlainSlot.{PlainSlot}
use Rattle.scalar_rule.specs.declared.sample.Sample.{Sample}
use Rattle.report_text.specs.Lines.{kind_text}

-- ---- the two-time overlap

-- a replica's spins after so many sweeps from its own spins and generators
abbrev pub spins_after : Dynamics → ℕ → PlainCopy → List Bool
spins_after d n replica = (sweeps d n (configuration_of replica)).spins

-- A: the sum over the sites of the product of the spin after `wait` sweeps and the spin t sweeps later
unfoldable pub two_time_overlap : Dynamics → ℕ → ℕ → PlainCopy → ℤ
two_time_overlap d wait t replica = overlap d.size (spins_after d wait replica) (spins_after d (wait + t) replica)

-- the times at which it is measured: 1 to 32 numbers of sweeps, each at most 1000000 and above the one before it
pub record AreTimes (times : List ℕ) : Type 0 where
  pub some : 1 ≤ length times
  pub few : length times ≤ 32
  pub each : All (λ t. t ≤ most_sweeps) times
  pub rising : (k : ℕ) → k + 1 < length times → slice_index times k < slice_index times (k + 1)

-- ---- the lines

-- of which lattice, slots, samples and rule the run is, and after how many sweeps the spins are kept
unfoldable pub header_line : Plan → ℕ → ℕ → List ℕ
header_line plan samples wait =
    codes "age 1 size=" ++ decimal plan.size ++ codes " slots=" ++ decimal (slots_of plan) ++ codes " samples=" ++ decimal samples
    ++ codes " rule=" ++ kind_text plan.rules.kind ++ codes " tw=" ++ decimal wait ++ codes "\n"

-- A of one sample in one of the two replicas of a slot, so many sweeps after the spins were kept
unfoldable pub overlap_line : ℕ → ℕ → ℕ → ℕ → ℤ → List ℕ
overlap_line slot copy t sample a =
    codes "age," ++ decimal slot ++ codes "," ++ decimal copy ++ codes "," ++ decimal t ++ codes "," ++ decimal sample
    ++ codes "," ++ signed_decimal a ++ codes "\n"

-- the last line
abbrev pub end_line : List ℕ
end_line = codes "end\n"

-- ---- the text

-- the lines of a replica at one time, sample by sample, where `overlaps b` is A of sample b
abbrev pub time_lines : ℕ → ℕ → ℕ → (ℕ → ℤ) → ℕ → List ℕ
time_lines slot copy t overlaps samples = flat_map (λ b. overlap_line slot copy t b (overlaps b)) (table (λ b. b) samples)

-- A of the samples at one time, where `replicas b` is the replica of sample b at the quench
abbrev pub overlaps_at : Plan → ℕ → ℕ → (ℕ → PlainCopy) → ℕ → ℕ → ℤ
overlaps_at plan slot wait replicas t b = two_time_overlap (dynamics_of plan b slot) wait t (replicas b)

-- the lines of a replica, time by time
abbrev pub replica_lines : Plan → ℕ → ℕ → List ℕ → ℕ → ℕ → (ℕ → PlainCopy) → List ℕ
replica_lines plan samples wait times slot copy replicas =
    flat_map (λ t. time_lines slot copy t (overlaps_at plan slot wait replicas t) samples) times

-- the lines of both replicas of a slot, where `slots b` is the slot of sample b at the quench
abbrev pub slot_lines : Plan → ℕ → ℕ → List ℕ → ℕ → (ℕ → PlainSlot) → List ℕ
slot_lines plan samples wait times slot slots =
    replica_lines plan samples wait times slot 0 (λ b. (slots b).first) ++ replica_lines plan samples wait times slot 1 (λ b. (slots b).second)

-- the lines of the first slots, where `states b` is the state of sample b at the quench
abbrev pub all_lines : Plan → ℕ → ℕ → List ℕ → (ℕ → Sample) → ℕ → List ℕ
all_lines plan samples wait times states count =
    flat_map (λ slot. slot_lines plan samples wait times slot (λ b. slot_at (states b).slots slot)) (table (λ slot. slot) count)

-- the whole text: no slot is ever exchanged with another
unfoldable pub aging_text : Plan → ℕ → ℕ → List ℕ → (ℕ → Sample) → List ℕ
aging_text plan samples wait times states =
    header_line plan samples wait ++ all_lines plan samples wait times states (slots_of plan) ++ end_line
