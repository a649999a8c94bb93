use Rattle.std.proofs.Common.{◌++◌, map, take}
use Rattle.glass_edges.specs.Writes.{HasPutFront}
use Rattle.glass_main.specs.Lines.{printable}
use Rattle.glass_main.proofs.plan_lines.put_printable.Given as goal

abbrev pub invariant-bytes : goal.invariant-bytes
invariant-bytes g l = HasPutFront g.E.Sink l.fn.err l.err (l.fn.line ++ map printable (take l.b-index l.bytes)) l.line
