-- The number lies between its bounds.
use Rattle.std.proofs.Common.{arith, refl}
use Rattle.toml.specs.View.{table_view}
use Rattle.run_plan.specs.declared.key.Key.TheVariants.{Samples}
use Rattle.run_plan.proofs.Rows.{number-bounded}
use Rattle.run_plan.proofs.values.samples_in.Goals as goal

pub overflow_cast-result : goal.overflow_cast-result
overflow_cast-result c =
    let small = number-bounded (table_view c.args.table.now) Samples 1 256 refl c.requires in
    omega (arith, small.1, c.number.ensures)
