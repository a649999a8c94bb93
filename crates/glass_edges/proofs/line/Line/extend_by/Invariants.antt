-- A front of the text so far is put, and the rest of it is the line.
use Rattle.std.proofs.Common.{◌≡◌, ℕ, List, ◌++◌, take}
use Rattle.glass_edges.specs.Contents.{TellsBytes}
use Rattle.glass_edges.specs.Writes.{HasPutFront}
use Rattle.glass_edges.proofs.line.Line.extend_by.Given as goal

abbrev pub invariant-bytes : goal.invariant-bytes
invariant-bytes g l = record {
  written : (text : List ℕ) → TellsBytes (goal.F-post g l.byte_at) l.count text → HasPutFront g.O.Sink l.fn.out l.out (l.fn.self ++ take l.k text) l.self;
  passed : g.O.Sink.faults l.out ≡ g.O.Sink.faults l.fn.out;
}
