-- The slots before this one are added.
use Rattle.std.proofs.Common.{ℕ, ◌++◌, flat_map}
use Rattle.glass_edges.specs.Writes.{HasPutFront}
use Rattle.spin_model.specs.Steps.{table}
use Rattle.measured_sums.specs.MeasuredSums.{Observed}
use Rattle.measured_sums.specs.OverlapField.{Field}
use Rattle.quenched_states.specs.QuenchText.{slot_lines}
use Rattle.quench_report.specs.Held.{of_earlier, of_sample, HoldKept}
use Rattle.quench_report.specs.States.{heading_of}
use Rattle.quench_report.proofs.writer.add_sample.Given as goal

abbrev pub invariant-slots : goal.invariant-slots
invariant-slots g l = (seen : ℕ → ℕ → Observed) (fields : ℕ → ℕ → ℕ → ℕ → Field) → HoldKept l.head.lattice l.state l.room seen fields l.head.slots
    → HasPutFront g.O.Sink l.fn.out l.out
    (l.fn.line ++ flat_map (slot_lines (heading_of l.head) (of_sample seen) (of_earlier fields) l.state l.sample) (table (λ t. t) l.slot)) l.line
