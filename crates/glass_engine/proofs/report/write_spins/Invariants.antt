use Rattle.glass_edges.specs.Writes.{HasPut}
use Rattle.glass_engine.specs.BankRuns.{run_slots}
use Rattle.glass_engine.specs.Report.{all_spins}
use Rattle.glass_engine.proofs.report.write_spins.Given as goal

abbrev pub invariant-samples : goal.invariant-samples
invariant-samples g l = HasPut g.O.Sink l.fn.out l.out (all_spins l.rows.plan.now l.b (run_slots l.rows.to l.rows.driven.now))
