use Rattle.std.proofs.lemmas.Result.{err_from_is_err_and}
use Rattle.threshold_table.specs.declared.refused.TableRefused.TheVariants as refused
use Rattle.threshold_table.proofs.Readings.{gives-err, rule-refused, rule-found, rule-lawful}
use Rattle.threshold_table.proofs.readers.read_rule.Goals as goal

pub returns-in_err-rows : goal.returns-in_err-rows
returns-in_err-rows c =
    let p = err_from_is_err_and c.from_residual.result c.from_residual.ensures.1 in
    gives-err refused.NoMemory _ c.from_residual.result p.0 c.in_err-rows.field-0.0 _ p.1 p.2 (λ other. rule-refused c.args.kind c.width_of.result c.args.bytes.now c.width_of.ensures _ (c.in_err-rows.ensures other))

pub of_lists-requires : goal.of_lists-requires
of_lists-requires c = rw c.as_slice.ensures.value (rule-lawful c.args.kind c.width_of.result c.args.bytes.now c.width_of.ensures c.in_ok-rows.rows.items c.in_ok-rows.ensures)

pub returns : goal.returns
returns c = rule-found c.args.kind c.width_of.result c.args.bytes.now c.width_of.ensures c.in_ok-rows.rows.items c.as_slice.result.now c.in_ok-table.table c.in_ok-rows.ensures c.as_slice.ensures.value c.in_ok-table.ensures
