use Rattle.std.proofs.Common.{◌∙◌, ap, map}
use Rattle.std.proofs.lemmas.List.{take_all}
use Rattle.threshold_table.specs.Tables.{thresholds_in}
use Rattle.threshold_table.proofs.PaddedRows.{lists-kept}
use Rattle.threshold_table.proofs.rule_table.RuleTable.of_lists.Goals as goal

pub invariant_of-result : goal.invariant_of-result
invariant_of-result c =
    let all = take_all c.rows.row-index c.args.rows.now c.rows-test.false in
    lists-kept c.args.kind c.args.rows.now c.of.result (ap (map (thresholds_in c.args.kind)) c.of.ensures ∙ c.rows.invariant.made ∙ all) (rw c.of.ensures c.rows.invariant.padded) c.requires
