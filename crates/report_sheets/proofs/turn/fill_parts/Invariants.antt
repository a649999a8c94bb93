-- The sheets have the rows of their epochs.
use Rattle.std.proofs.Common.{◌≡◌, length}
use Rattle.std.specs.Prelude.{All}
use Rattle.report_sheets.specs.Sheets.{HasItsRows}
use Rattle.report_sheets.proofs.turn.fill_parts.Given as goal

abbrev pub invariant-sheets : goal.invariant-sheets
invariant-sheets g l = record {
  filled : All (HasItsRows (g.S.RowSource.text l.rows)) l.sheets;
  count : length l.sheets ≡ length l.fn.sheets;
}
