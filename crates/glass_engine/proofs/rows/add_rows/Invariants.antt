use Rattle.std.proofs.Common.{◌++◌}
use Rattle.glass_edges.specs.Writes.{HasPutFront}
use Rattle.glass_engine.specs.BankRuns.{run_measured}
use Rattle.glass_engine.specs.RecordPieces.{AreRowsFrom}
use Rattle.glass_engine.specs.Report.{rows_in_order}
use Rattle.glass_engine.proofs.rows.add_rows.Given as goal

abbrev pub invariant-epochs : goal.invariant-epochs
invariant-epochs g l = record {
  written : HasPutFront g.O.Sink l.fn.out l.out (l.fn.line ++ rows_in_order (run_measured l.rows.driven.now) l.rows.orders.samples l.rows.orders.every l.from l.epoch) l.line;
  rows : AreRowsFrom l.rows.driven.now l.rows.orders l.rows.slots l.epoch l.rows.to l.passed;
}
