-- The first bytes are put; before the first put nothing has changed.
use Rattle.std.proofs.Common.{◌≡◌, ◌-◌, ◌≤◌, length, take}
use Rattle.glass_edges.specs.Contents.{appended}
use Rattle.glass_edges.proofs.all_bytes.put_all.Given as goal

abbrev pub invariant-pieces : goal.invariant-pieces
invariant-pieces g l = record {
  within : l.at ≤ length l.bytes;
  taken : g.S.Sink.taken l.sink ≡ appended (g.S.Sink.taken l.fn.sink) (take l.at l.bytes);
  passed : g.S.Sink.faults l.sink ≡ g.S.Sink.faults l.fn.sink;
  untouched : l.at ≡ 0 → l.sink ≡ l.fn.sink;
}

abbrev pub decreases-pieces : goal.decreases-pieces
decreases-pieces g l = length l.bytes - l.at
