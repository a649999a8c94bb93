use Rattle.std.proofs.Common.{◌≡◌, ◌∙◌, ℕ, List, length, sym, ap}
use Rattle.std.proofs.lemmas.List.{take_all}
use Rattle.std.proofs.lemmas.List.Elements.{All-more, All-same}
use Rattle.threshold_table.proofs.Stored.{copied}
use Rattle.threshold_table.proofs.Swaps.{swaps-kept}
use Rattle.threshold_table.proofs.swap_table.SwapTable.from_rows.Goals as goal

pub rows-preserved : goal.rows-preserved
rows-preserved g c =
    record {
      kept = c.in_ok-push.ensures.items ∙ copied {X = List ℕ} c.args.rows.now c.rows.kept.items c.in_ok-list_of.field-0 c.rows.row-index _ c.rows-test.true (c.in_ok-list_of.ensures.value ∙ c.row-item.is) c.rows.invariant.kept;
      sized = All-more (λ (row : List ℕ). length row ≡ g.row.N) c.args.rows.now c.rows.row-index _ c.rows-test.true c.rows.invariant.sized (ap length (sym c.row-item.is) ∙ c.list_of.ensures.sized);
    }

pub invariant_of-result : goal.invariant_of-result
invariant_of-result g c =
    let all = take_all {A = List ℕ} c.rows.row-index c.args.rows.now c.rows-test.false in
    let same : c.of.result ≡ c.args.rows.now = c.of.ensures ∙ c.rows.invariant.kept ∙ all in
    rw same (swaps-kept g.row.N c.args.rows.now c.requires.few c.requires.some c.requires.short (All-same (λ (row : List ℕ). length row ≡ g.row.N) c.args.rows.now _ (sym all) c.rows.invariant.sized) c.requires.lawful)
