use Rattle.std.proofs.Common.{◌∙◌, ap, length}
use Rattle.spin_model.proofs.Tables.{length-table}
use Rattle.scalar_rule.proofs.plain.plain_run.Goals as goal

pub sweep_often-requires-clause-wheels : goal.sweep_often-requires-clause-wheels
sweep_often-requires-clause-wheels c = ap length c.in_ok-replica.ensures.words ∙ length-table _ _
