-- A front of the text so far is put, and the rest of it is the line.
use Rattle.std.proofs.Common.{◌≡◌, ◌+◌, ◌-◌, ◌≤◌, ◌++◌, length, take}
use Rattle.glass_edges.specs.Contents.{line_room}
use Rattle.glass_edges.specs.Writes.{HasPutFront}
use Rattle.glass_edges.proofs.line.Line.extend.Given as goal

abbrev pub invariant-pieces : goal.invariant-pieces
invariant-pieces g l = record {
  within : l.at ≤ length l.bytes;
  written : HasPutFront g.O.Sink l.fn.out l.out (l.fn.self ++ take l.at l.bytes) l.self;
  stays : length l.fn.self + l.at ≤ line_room → (l.self ≡ l.fn.self ++ take l.at l.bytes) × (l.out ≡ l.fn.out);
}

abbrev pub decreases-pieces : goal.decreases-pieces
decreases-pieces g l = length l.bytes - l.at
