use Rattle.threshold_table.proofs.Cuts.{records-first, records-none}
use Rattle.threshold_table.proofs.lines.next_line.Goals as goal

pub returns-then-end-text-clause-found : goal.returns-then-end-text-clause-found
returns-then-end-text-clause-found c = records-first _ _ c.line_len-end.ensures c.if-end-text.true

pub returns-else-end-text-clause-found : goal.returns-else-end-text-clause-found
returns-else-end-text-clause-found c = records-none _ _ c.line_len-end.ensures c.if-end-text.false
