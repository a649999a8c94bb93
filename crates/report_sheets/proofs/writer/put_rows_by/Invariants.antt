-- The rows before the round that is filled are put, and its parts are on the back sheets.
use Rattle.std.proofs.Common.{◌≡◌, ◌≤◌, ◌-◌, length}
use Rattle.std.specs.Prelude.{All}
use Rattle.glass_edges.specs.Writes.{HasPut}
use Rattle.report_sheets.specs.Sheets.{start_of, HasItsRows}
use Rattle.report_sheets.proofs.writer.put_rows_by.Given as goal

abbrev pub invariant-rounds : goal.invariant-rounds
invariant-rounds g l = record {
  written : HasPut g.O.Sink l.fn.out l.out (g.S.RowSource.text l.rows (g.S.RowSource.begin l.rows) l.done.first);
  front_rows : All (HasItsRows (g.S.RowSource.text l.rows)) l.front;
  back_rows : All (HasItsRows (g.S.RowSource.text l.rows)) l.back;
  all : start_of l.done (length l.back) ≡ l.done.last;
  begin : g.S.RowSource.begin l.rows ≤ l.done.first;
  window : l.done.first ≤ l.done.last;
  end : l.done.last ≤ l.pace.end;
  front : length l.front ≡ l.half;
  back : l.half ≤ length l.back;
}

abbrev pub decreases-rounds : goal.decreases-rounds
decreases-rounds g l = l.pace.end - l.done.first
