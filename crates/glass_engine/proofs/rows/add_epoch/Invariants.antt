use Rattle.std.proofs.Common.{◌++◌}
use Rattle.glass_edges.specs.Writes.{HasPutFront}
use Rattle.glass_engine.specs.BankRuns.{run_measured}
use Rattle.glass_engine.specs.Report.{epoch_rows}
use Rattle.glass_engine.proofs.rows.add_epoch.Given as goal

abbrev pub invariant-samples : goal.invariant-samples
invariant-samples g l = HasPutFront g.O.Sink l.fn.out l.out (l.fn.line ++ epoch_rows (run_measured l.rows.driven.now) l.b l.epoch) l.line
