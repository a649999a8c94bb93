use Rattle.std.proofs.Common.{ℕ, List, ◌≡◌, ◌∙◌, None, ap, arith, length, map}
use Rattle.std.proofs.lemmas.Result.{err_from_is_err_and}
use Rattle.glass_edges.proofs.FirstRefusals.{goes-on, ends, nothing, or-first, or-later, is-found, gives-refusal, gives-memory}
use Rattle.threshold_table.specs.declared.refused.TableRefused.TheVariants as refused
use Rattle.threshold_table.specs.TableText.{records, record_refusal, record_values}
use Rattle.threshold_table.proofs.Parts.{gives-refused_as}
use Rattle.threshold_table.proofs.Front.{few, all-rows, kept-more}
use Rattle.threshold_table.proofs.rows.rows_in.Goals as goal

pub returns-in_err-row : goal.returns-in_err-row
returns-in_err-row c =
    let p = err_from_is_err_and c.from_residual.result c.from_residual.ensures.1 in
    gives-refused_as (List ℕ) refused.NoMemory _ c.from_residual.result p.0 c.in_err-row.field-0.0 _ _ _ p.1 p.2 c.in_err-row.ensures.refused (λ found. or-first _ _ _ (ends (record_refusal c.args.width) c.records.at _ _ _ _ _ c.in-Some.ensures.found found c.records.invariant.refused))

pub returns-in_err-keep : goal.returns-in_err-keep
returns-in_err-keep c =
    let p = err_from_is_err_and c.from_residual-in_err-keep.result c.from_residual-in_err-keep.ensures.1 in
    gives-memory refused.NoMemory _ c.from_residual-in_err-keep.result p.0 _ p.1 (p.2 ∙ c.in_err-keep.ensures.memory)

pub records-preserved : goal.records-preserved
records-preserved c =
    record {
      within = omega (arith, c.in-Some.ensures.shorter);
      number = omega (arith, ap length c.in-Some.ensures.found);
      refused = goes-on (record_refusal c.args.width) c.records.at _ _ _ _ c.in-Some.ensures.found c.in_ok-row.ensures.refused c.records.invariant.refused;
      short = c.in_ok-keep.ensures.within;
      values = c.in_ok-keep.ensures.kept (map record_values (records c.in-Some.after.now)) ∙ kept-more c.args.height.most c.records.rows.items c.in_ok-row.row _ _ _ _ c.in-Some.ensures.found c.in_ok-row.ensures.values c.records.invariant.values;
    }

pub returns-in_err-counted : goal.returns-in_err-counted
returns-in_err-counted c =
    let p = err_from_is_err_and c.from_residual-in_err-counted.result c.from_residual-in_err-counted.ensures.1 in
    let none = nothing (record_refusal c.args.width) c.records.at _ _ c.in_default.ensures.found c.records.invariant.refused in
    let len : length (records c.args.text.now) ≡ c.records.at = omega (arith, ap length c.in_default.ensures.found) in
    gives-refusal refused.NoMemory _ c.from_residual-in_err-counted.result p.0 _ _ p.1 (rw p.2 (or-later _ _ _ none (rw len c.in_err-counted.ensures)))

pub returns : goal.returns
returns c =
    let none = nothing (record_refusal c.args.width) c.records.at _ _ c.in_default.ensures.found c.records.invariant.refused in
    let len : length (records c.args.text.now) ≡ c.records.at = omega (arith, ap length c.in_default.ensures.found) in
    is-found _ _ _ (or-later _ _ None none (rw len c.in_ok-counted.ensures)) (all-rows c.args.height.most c.records.rows.items _ _ c.records.invariant.short (omega (arith, few c.args.height c.records.at c.in_ok-counted.ensures)) c.in_default.ensures.found c.records.invariant.values)
