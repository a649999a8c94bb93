-- No key is refused where the first refusal is none, and then all numbers are within their limits.
use Rattle.std.proofs.Common.{sym, subst, ◌∙◌}
use Rattle.toml.specs.View.{table_view}
use Rattle.run_plan.specs.RunFile.{IsLawfulRunFile}
use Rattle.run_plan.proofs.Rows.{each-passes, values-lawful}
use Rattle.run_plan.proofs.reading.read_table.Goals as goal

pub values_of-requires : goal.values_of-requires
values_of-requires c = each-passes (table_view c.args.table.now) (sym c.refuse_keys.ensures ∙ c.in_default.is)

pub returns-clause-lawful : goal.returns-clause-lawful
returns-clause-lawful c =
    let members = table_view c.args.table.now in
    subst IsLawfulRunFile (sym c.in_ok-values_of.ensures) (values-lawful members (each-passes members (sym c.refuse_keys.ensures ∙ c.in_default.is)))
