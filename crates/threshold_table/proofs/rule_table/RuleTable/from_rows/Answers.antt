use Rattle.std.proofs.Common.{◌≡◌, ◌∙◌, length, sym}
use Rattle.std.proofs.lemmas.List.{take_all}
use Rattle.std.proofs.lemmas.List.Elements.{All-more, All-same}
use Rattle.threshold_table.specs.declared.rule_table.RuleRow.{RuleRow}
use Rattle.threshold_table.proofs.Stored.{copied}
use Rattle.threshold_table.proofs.PaddedRows.{rows-kept}
use Rattle.threshold_table.proofs.rule_table.RuleTable.from_rows.Goals as goal

pub rows-preserved : goal.rows-preserved
rows-preserved c =
    record {
      kept = c.in_ok-push.ensures.items ∙ copied c.args.rows.now c.rows.kept.items c.copy_of.result c.rows.row-index _ c.rows-test.true c.copy_of.ensures.same c.rows.invariant.kept;
      sized = All-more (λ (r : RuleRow). length r.values ≡ 7) c.args.rows.now c.rows.row-index _ c.rows-test.true c.rows.invariant.sized c.copy_of.ensures.sized;
    }

pub invariant_of-result : goal.invariant_of-result
invariant_of-result c =
    let all = take_all c.rows.row-index c.args.rows.now c.rows-test.false in
    rows-kept c.args.kind c.args.rows.now c.of.result (c.of.ensures ∙ c.rows.invariant.kept ∙ all) (All-same (λ (r : RuleRow). length r.values ≡ 7) _ _ (sym all) c.rows.invariant.sized) c.requires.some c.requires.few c.requires.lawful
