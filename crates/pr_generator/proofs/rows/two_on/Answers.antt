use Rattle.std.proofs.Common.{◌≡◌, ◌+◌, ◌++◌, length, drop, take, get_or, sym, ◌∙◌, arith}
use Rattle.spin_model.specs.Steps.{table}
use Rattle.pr_generator.proofs.RowTurns.{two-on}
use Rattle.pr_generator.proofs.rows.two_on.Goals as goal

pub returns : goal.returns
unfolding table
returns c = two-on c.args.row.now c.args.behind.now (omega arith) (omega arith)
