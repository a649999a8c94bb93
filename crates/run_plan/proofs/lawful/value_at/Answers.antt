-- The value at a key is that of the table's member.
use Rattle.toml.proofs.Views.{table_get}
use Rattle.run_plan.specs.RunFile.{value_at}
use Rattle.run_plan.proofs.lawful.value_at.Goals as goal

pub returns : goal.returns
unfolding value_at
returns c = rw (← c.name.ensures) (table_get c.get.result _ c.args.table.now.entries c.get.ensures.value)
