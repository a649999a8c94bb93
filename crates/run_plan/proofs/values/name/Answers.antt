-- A name that isn't refused has 1 to 255 bytes.
use Rattle.std.proofs.Common.{arith, ap, length}
use Rattle.toml.specs.View.{table_view}
use Rattle.run_plan.proofs.Rows.{name-sized}
use Rattle.run_plan.proofs.values.name.Goals as goal

pub of-requires-clause-some : goal.of-requires-clause-some
of-requires-clause-some c =
    let (some, short) = name-sized (table_view c.args.table.now) c.args.key c.requires.row c.requires.lawful in
    omega (arith, some, ap length c.text.ensures)

pub of-requires-clause-short : goal.of-requires-clause-short
of-requires-clause-short c =
    let (some, short) = name-sized (table_view c.args.table.now) c.args.key c.requires.row c.requires.lawful in
    omega (arith, short, ap length c.text.ensures)
