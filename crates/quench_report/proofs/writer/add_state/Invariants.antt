-- The samples before this one are added, and the sums of the bank that it is in are held, unless it is the first of it.
use Rattle.std.proofs.Common.{◌≡◌, ◌++◌, length, map, flat_map}
use Rattle.std.specs.Arc.{arc_value}
use Rattle.glass_edges.specs.Writes.{HasPutFront}
use Rattle.spin_model.specs.Steps.{table}
use Rattle.quenched_states.specs.QuenchText.{sample_lines}
use Rattle.quench_report.specs.Held.{HasRoom, HoldsBankOf}
use Rattle.quench_report.specs.States.{heading_of, kept_fields, kept_seen}
use Rattle.quench_report.proofs.writer.add_state.Given as goal

abbrev pub invariant-samples : goal.invariant-samples
invariant-samples g l = record {
  added : HasPutFront g.O.Sink l.fn.out l.out
      (l.fn.line ++ flat_map (sample_lines (heading_of l.quench.head.now) (kept_seen l.quench.head.now.lattice (map arc_value l.quench.plans.now) l.fn.states)
      (kept_fields l.quench.head.now.lattice l.fn.states) l.state) (table (λ b. b) l.sample)) l.line;
  held : HoldsBankOf (heading_of l.quench.head.now) (map arc_value l.quench.plans.now) l.fn.states l.state l.room l.sample;
  room : HasRoom l.quench.head.now.slots (length l.quench.head.now.times.now) l.room;
  same : l.states ≡ l.fn.states;
}
