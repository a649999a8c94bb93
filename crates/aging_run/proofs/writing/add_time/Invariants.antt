use Rattle.std.proofs.Common.{◌++◌}
use Rattle.glass_edges.specs.Writes.{HasPutFront}
use Rattle.aging_run.specs.Aging.{time_lines}
use Rattle.aging_run.specs.Measuring.{overlap_in}
use Rattle.aging_run.proofs.writing.add_time.Given as goal

abbrev pub invariant-samples : goal.invariant-samples
invariant-samples g l = HasPutFront g.O.Sink l.fn.out l.out
    (l.fn.line ++ time_lines l.measured.place.slot l.measured.place.copy l.measured.time (overlap_in l.measured.agreeing.now.words l.measured.sites) l.b) l.line
