use Rattle.std.proofs.Common.{◌≡◌, take, length}
use Rattle.std.specs.List.{All}
use Rattle.threshold_table.specs.declared.rule_table.RuleRow.{RuleRow}
use Rattle.threshold_table.proofs.rule_table.RuleTable.from_rows.Given as goal

abbrev pub invariant-rows : goal.invariant-rows
invariant-rows l = record {
  kept : l.kept.items ≡ take l.row-index l.rows;
  sized : All (λ (r : RuleRow). length r.values ≡ 7) (take l.row-index l.rows);
}
