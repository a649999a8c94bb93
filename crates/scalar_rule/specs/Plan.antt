-- A plan: all that fixes the physics of a run, as plain data.
use Rattle.std.specs.Prelude.{◌≡◌, ℕ, ◌+◌, ◌-◌, ◌≤◌, List, length}
use Rattle.coupling_set.specs.CouplingWords.{CouplingsView, AreCouplings, bonds_of}
use Rattle.spin_model.specs.Lattice.{IsLawfulSize}
use Rattle.spin_model.specs.Limits.{most_sweeps}
use Rattle.threshold_table.specs.Tables.{RuleView, IsLawfulRules, IsLawfulSwaps, rule_of, thresholds_of}
use Rattle.scalar_rule.specs.Sweep.{Dynamics}

-- the side of the lattice; the spin rule with the thresholds of each temperature slot; the entries of each pair of
-- neighbouring slots; the couplings of the disorder samples; the sweeps of an epoch; the seed
pub record Plan : Type 0 where
  pub size : ℕ
  pub rules : RuleView
  pub swaps : List (List ℕ)
  pub couplings : CouplingsView
  pub sweeps : ℕ
  pub seed : ℕ

-- the number of temperature slots, slot 0 the coldest
abbrev pub slots_of : Plan → ℕ
slots_of plan = length plan.rules.rows

-- the number of pairs of neighbouring slots: pair k is slots k and k + 1
abbrev pub pairs_of : Plan → ℕ
pairs_of plan = slots_of plan - 1

-- what the sweeps of sample b in a slot depend on
abbrev pub dynamics_of : Plan → ℕ → ℕ → Dynamics
dynamics_of plan b slot = record {
  size = plan.size;
  rule = rule_of plan.rules.kind;
  thresholds = thresholds_of plan.rules slot;
  bonds = bonds_of plan.couplings b;
}

-- a lawful plan: one pair fewer than slots, couplings of its lattice, and numbers within their limits
pub record IsLawfulPlan (plan : Plan) : Type 0 where
  pub size : IsLawfulSize plan.size
  pub rules : IsLawfulRules plan.rules
  pub swaps : IsLawfulSwaps plan.swaps
  pub pairs : length plan.swaps + 1 ≡ length plan.rules.rows
  pub couplings : AreCouplings plan.couplings
  pub lattice : plan.couplings.size ≡ plan.size
  pub some_sweeps : 1 ≤ plan.sweeps
  pub few_sweeps : plan.sweeps ≤ most_sweeps
  pub seed : plan.seed ≤ 9223372036854775807
