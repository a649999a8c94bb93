use Rattle.std.proofs.Common.{◌≡◌, take, map}
use Rattle.std.specs.List.{All}
use Rattle.threshold_table.specs.KeptRules.{IsPadded}
use Rattle.threshold_table.specs.Tables.{thresholds_in}
use Rattle.threshold_table.proofs.rule_table.RuleTable.of_lists.Given as goal

abbrev pub invariant-rows : goal.invariant-rows
invariant-rows l = record {
  made : map (thresholds_in l.kind) l.kept.items ≡ take l.row-index l.rows;
  padded : All (IsPadded l.kind) l.kept.items;
}
