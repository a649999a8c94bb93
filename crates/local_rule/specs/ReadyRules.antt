-- The rule of a slot made ready for sweeps: beside each threshold a number with a sign that is above the same draws.
use Rattle.std.specs.Prelude.{◌≡◌, ℕ, ◌^◌, ◌<◌, Bool, ℤ, pos, int_lt, nat_lt, List, slice_index, slice_index_or}
use Rattle.threshold_table.specs.declared.rule_table.SlotRule.{SlotRule}
use Rattle.local_rule.specs.RowOrder.{is_in_order}

-- a number with a sign is above the same draws as a threshold
abbrev pub IsLimit : ℕ → ℤ → Type 0
IsLimit threshold limit = (d : ℕ) → d < 2 ^ 32 → int_lt (pos d) limit ≡ nat_lt d threshold

-- and so are those of seven cases
abbrev pub AreLimits : List ℕ → List ℤ → Type 0
AreLimits thresholds limits =
    (case : ℕ) → case < 7 → IsLimit (slice_index thresholds case) (slice_index_or limits case (pos 0))

-- what is kept beside a rule is right
pub record IsReady (rule : SlotRule) (limits : List ℤ) (in_order : Bool) : Type 0 where
  pub each : AreLimits rule.row.values limits
  pub order : in_order ≡ is_in_order rule
