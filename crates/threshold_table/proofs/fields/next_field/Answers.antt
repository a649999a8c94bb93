use Rattle.threshold_table.proofs.Cuts.{fields-first, fields-none}
use Rattle.threshold_table.proofs.fields.next_field.Goals as goal

pub returns-then-end-line : goal.returns-then-end-line
returns-then-end-line c = fields-first _ _ c.field_len-end.ensures c.if-end-line.true

pub returns-else-end-line : goal.returns-else-end-line
returns-else-end-line c = fields-none _ _ c.field_len-end.ensures c.if-end-line.false
