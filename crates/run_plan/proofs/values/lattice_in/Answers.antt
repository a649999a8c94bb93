-- A size that isn't refused is that of a lattice.
use Rattle.std.proofs.Common.{arith, sym, subst}
use Rattle.toml.specs.View.{table_view}
use Rattle.spin_model.specs.Lattice.{IsLawfulSize}
use Rattle.run_plan.proofs.Rows.{size-lawful, accepted}
use Rattle.run_plan.proofs.values.lattice_in.Goals as goal

pub overflow_cast-number : goal.overflow_cast-number
overflow_cast-number c =
    let lawful = subst IsLawfulSize (sym c.number.ensures) (size-lawful (table_view c.args.table.now) c.requires) in
    grind (arith, lawful)

pub unwrap-requires : goal.unwrap-requires
unwrap-requires c =
    let lawful = subst IsLawfulSize (sym c.number.ensures) (size-lawful (table_view c.args.table.now) c.requires) in
    accepted (IsLawfulSize c.number.result) _ c.of.result c.of.ensures.refused lawful
