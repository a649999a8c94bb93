-- The samples before b are added, and the sums of the bank that the next one is in are held, unless it is the first of it.
use Rattle.std.proofs.Common.{◌≡◌, ◌++◌, length, flat_map}
use Rattle.glass_edges.specs.Writes.{HasPutFront}
use Rattle.spin_model.specs.Steps.{table}
use Rattle.quenched_states.specs.CrossText.{slots_lines}
use Rattle.copies_report.specs.Held.{HoldsBankOf}
use Rattle.copies_report.specs.States.{heading_of, states_fields}
use Rattle.copies_report.proofs.writer.add_samples.Given as goal

abbrev pub invariant-samples : goal.invariant-samples
invariant-samples g l = record {
  added : HasPutFront g.O.Sink l.fn.out l.out
      (l.fn.line ++ flat_map (slots_lines (heading_of l.head) (states_fields l.head.lattice l.first l.second)) (table (λ b. b) l.b)) l.line;
  held : HoldsBankOf (heading_of l.head) l.first l.second l.room l.b;
  long : length l.room ≡ length l.fn.room;
}
