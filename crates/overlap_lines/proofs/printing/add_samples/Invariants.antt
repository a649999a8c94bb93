-- The samples before b are added.
use Rattle.std.proofs.Common.{◌++◌}
use Rattle.glass_edges.specs.Writes.{HasPutFront}
use Rattle.overlap_lines.specs.CountedText.{counted_samples}
use Rattle.overlap_lines.proofs.printing.add_samples.Given as goal

abbrev pub invariant-samples : goal.invariant-samples
invariant-samples g l = HasPutFront g.O.Sink l.fn.out l.out
    (l.fn.line ++ counted_samples l.plan l.counts l.b) l.line
