use Rattle.std.proofs.Common.{sym, ◌∙◌}
use Rattle.threshold_table.proofs.Cuts.{records-end}
use Rattle.threshold_table.proofs.lines.next_record.Goals as goal

pub returns-clause-found : goal.returns-clause-found
returns-clause-found c = sym c.lines.invariant.same ∙ records-end c.lines.rest.now c.lines-test.ensures
