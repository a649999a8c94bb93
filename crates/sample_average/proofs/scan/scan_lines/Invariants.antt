-- The lines before are read, and their rows are those that were kept.
use Rattle.std.proofs.Common.{length}
use Rattle.sample_average.proofs.Progress.{Kept}
use Rattle.sample_average.proofs.scan.scan_lines.Given as goal

abbrev pub invariant-lines : goal.invariant-lines
invariant-lines l = Kept l.header l.bytes l.fn.out l.place l.rest l.line l.rows l.out

abbrev pub decreases-lines : goal.decreases-lines
decreases-lines l = length l.rest
