-- The states from the first one that was not held are added, and all are as before.
use Rattle.std.proofs.Common.{◌≡◌, ◌++◌, length, map}
use Rattle.std.specs.Arc.{arc_value}
use Rattle.glass_edges.specs.Writes.{HasPutFront}
use Rattle.quenched_states.specs.QuenchText.{lines_between}
use Rattle.quench_report.specs.Held.{HasRoom}
use Rattle.quench_report.specs.States.{heading_of, kept_fields, kept_seen}
use Rattle.quench_report.proofs.writer.add_states.Given as goal

abbrev pub invariant-states : goal.invariant-states
invariant-states g l = record {
  added : HasPutFront g.O.Sink l.fn.out l.out
      (l.fn.line ++ lines_between (heading_of l.quench.head.now) (kept_seen l.quench.head.now.lattice (map arc_value l.quench.plans.now) l.fn.states)
      (kept_fields l.quench.head.now.lattice l.fn.states) l.quench.head.now.held l.j) l.line;
  room : HasRoom l.quench.head.now.slots (length l.quench.head.now.times.now) l.room;
  same : l.states ≡ l.fn.states;
}
