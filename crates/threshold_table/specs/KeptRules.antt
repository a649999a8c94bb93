-- What a rule table keeps, and what a contract sees of it.
use Rattle.std.specs.Prelude.{◌≡◌, map}
use Rattle.std.specs.List.{All}
use Rattle.threshold_table.specs.declared.rule_table.RuleKind.{RuleKind}
use Rattle.threshold_table.specs.declared.rule_table.RuleRow.{RuleRow}
use Rattle.threshold_table.specs.declared.rule_table.RuleTable.TheInside.{Inside}
use Rattle.threshold_table.specs.Tables.{RuleView, IsLawfulRules, padded, thresholds_in}

-- the kind and the thresholds of each slot
abbrev pub rule_view : Inside → RuleView
rule_view t = record { kind = t.kind; rows = map (thresholds_in t.kind) t.rows }

-- a row is its thresholds, and zeros after them
abbrev pub IsPadded : RuleKind → RuleRow → Type 0
IsPadded kind row = row.values ≡ padded (thresholds_in kind row)

-- each row is padded, and the table is lawful
pub record KeepsRules (t : Inside) : Type 0 where
  pub padded : All (IsPadded t.kind) t.rows
  pub lawful : IsLawfulRules (rule_view t)
