-- The kept states of a quench, each bank by bank of 64 samples, and their text.
use Rattle.std.specs.Prelude.{◌≡◌, ℕ, ◌*◌, ◌/◌, ◌<◌, ◌≤◌, List, [], All, length, slice_index_or}
use Rattle.threshold_table.specs.declared.rule_table.RuleKind.TheVariants as kinds
use Rattle.scalar_rule.specs.Plan.{Plan}
use Rattle.scalar_rule.specs.declared.sample.Sample.{Sample}
use Rattle.plane_sweep.specs.declared.stand.Stand.{Stand}
use Rattle.measured_sums.specs.OverlapField.{Field}
use Rattle.measured_sums.specs.MeasuredSums.{Observed}
use Rattle.quenched_states.specs.QuenchText.{QuenchHeading, quench_text, state_seen, state_fields}
use Rattle.copies_report.specs.States.{sample_among, HasSlots}
use Rattle.quench_report.specs.declared.head.QuenchHead.{QuenchHead}

-- what the first line says
abbrev pub heading_of : QuenchHead → QuenchHeading
heading_of head = record {
  size = head.lattice;
  slots = head.slots;
  samples = head.samples;
  rule = head.rule.now;
  sweeps = head.sweeps;
  times = head.times.now;
  held = head.held;
}

-- ---- states and plans

-- state j, bank by bank
abbrev pub state_at : List (List Stand) → ℕ → List Stand
state_at states j = slice_index_or states j []

-- state j of sample b, which is sample b mod 64 of its bank
abbrev pub kept_among : ℕ → List (List Stand) → ℕ → ℕ → Sample
kept_among l states b j = sample_among l (state_at states j) b

-- the plan of bank g
abbrev pub bank_plan : List Plan → ℕ → Plan
bank_plan plans g = slice_index_or plans g nothing
  where
    nothing : Plan
    nothing = record {
      size = 0;
      rules = record { kind = kinds.Heat; rows = [] };
      swaps = [];
      couplings = record { size = 0; words = [] };
      sweeps = 0;
      seed = 0;
    }

-- that of sample b
abbrev pub plan_among : List Plan → ℕ → Plan
plan_among plans b = bank_plan plans (b / 64)

-- a state for each time, and a plan for each bank: the banks have all samples, and all slots, which fit the lattice of the plans
pub record AreKept (h : QuenchHeading) (plans : List Plan) (states : List (List Stand)) : Type 0 where
  pub times : length h.times ≤ length states
  pub samples : h.samples ≤ 64 * length plans
  pub sizes : All (λ (plan : Plan). plan.size ≡ h.size) plans
  pub banks : All (λ (stands : List Stand). length stands ≡ length plans) states
  pub slots : All (λ (stands : List Stand). All (HasSlots h.size h.slots) stands) states

-- ---- the text

-- what is seen of state j in sample b and slot t
abbrev pub kept_seen : ℕ → List Plan → List (List Stand) → ℕ → ℕ → ℕ → Observed
kept_seen l plans states = state_seen (plan_among plans) (kept_among l states)

-- the field of copy a in the states i and j
abbrev pub kept_fields : ℕ → List (List Stand) → ℕ → ℕ → ℕ → ℕ → ℕ → Field
kept_fields l states = state_fields (kept_among l states)

abbrev pub states_text : QuenchHeading → List Plan → List (List Stand) → List ℕ
states_text h plans states = quench_text h (kept_seen h.size plans states) (kept_fields h.size states)

-- where the plans and states are those of the samples that are printed, it is their text
abbrev pub TextIsTheSamples : Type 0
TextIsTheSamples = (h : QuenchHeading) (plans : List Plan) (states : List (List Stand)) (plan : ℕ → Plan) (kept : ℕ → ℕ → Sample)
    → ((b : ℕ) → b < h.samples → plan_among plans b ≡ plan b)
    → ((b j : ℕ) → b < h.samples → j < length h.times → kept_among h.size states b j ≡ kept b j)
    → states_text h plans states ≡ quench_text h (state_seen plan kept) (state_fields kept)
