-- Nothing is put yet.
use Rattle.std.proofs.Common.{◌≡◌}
use Rattle.report_sheets.proofs.turn.put_part.Given as goal

abbrev pub invariant-sheets : goal.invariant-sheets
invariant-sheets g l = record {
  same : l.out ≡ l.fn.out;
}
