-- The spin rule of a slot as the program keeps it, in the sweeps of a sample.
use Rattle.std.specs.Prelude.{◌≡◌, ℕ, slice_index}
use Rattle.spin_model.specs.Couplings.{Bonds}
use Rattle.threshold_table.specs.Tables.{RuleView, rule_of, threshold_of}
use Rattle.scalar_rule.specs.Sweep.{Dynamics}
use Rattle.threshold_table.specs.declared.rule_table.SlotRule.{SlotRule}

-- what the sweeps depend on, with the seven values of a row as thresholds
abbrev pub dynamics_with : ℕ → SlotRule → Bonds → Dynamics
dynamics_with l rule bonds = record { size = l; rule = rule_of rule.kind; thresholds = rule.row.values; bonds = bonds }

-- it is the rule of a slot in a table, case by case
pub record HasThresholds (rules : RuleView) (slot : ℕ) (rule : SlotRule) : Type 0 where
  pub kind : rule.kind ≡ rules.kind
  pub cases : (k : ℕ) → slice_index rule.row.values k ≡ threshold_of rules slot k
