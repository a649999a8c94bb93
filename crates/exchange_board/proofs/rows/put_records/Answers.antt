use Rattle.std.proofs.Common.{sym, ◌∙◌}
use Rattle.exchange_board.proofs.RowPlaces.{records-after, none-after}
use Rattle.exchange_board.proofs.rows.put_records.Goals as goal

pub returns-then-is_recorded : goal.returns-then-is_recorded
returns-then-is_recorded c = records-after _ _ _ c.rows_of-rows.result _ _ _ (sym c.is_recorded.ensures ∙ c.if-is_recorded.true) c.rows_of-rows.ensures.rows c.put_rows.ensures

pub returns-else-is_recorded : goal.returns-else-is_recorded
returns-else-is_recorded c = none-after _ _ _ _ _ (sym c.is_recorded.ensures ∙ c.if-is_recorded.false)
