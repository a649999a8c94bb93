-- The first sheets give no text.
use Rattle.std.proofs.Common.{◌≡◌, ℕ, ◌<◌, false, length, slice_index_or}
use Rattle.report_sheets.specs.Views.{SheetView}
use Rattle.report_sheets.proofs.writer.forget_rows.Given as goal

abbrev pub invariant-sheets : goal.invariant-sheets
invariant-sheets l = record {
  none : (i : ℕ) (d : SheetView) → i < l.k → (slice_index_or l.sheets i d).whole ≡ false;
  count : length l.sheets ≡ length l.fn.sheets;
}
