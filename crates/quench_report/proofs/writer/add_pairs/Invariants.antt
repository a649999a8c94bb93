-- The states before i are added.
use Rattle.std.proofs.Common.{ℕ, ◌%◌, ◌++◌, flat_map}
use Rattle.glass_edges.specs.Writes.{HasPutFront}
use Rattle.spin_model.specs.Steps.{table}
use Rattle.measured_sums.specs.OverlapField.{Field}
use Rattle.quenched_states.specs.KeptStates.{time_at}
use Rattle.quenched_states.specs.QuenchText.{pair_line}
use Rattle.quench_report.specs.Held.{HoldPairs}
use Rattle.quench_report.proofs.writer.add_pairs.Given as goal

abbrev pub invariant-pairs : goal.invariant-pairs
invariant-pairs g l = (fields : ℕ → ℕ → ℕ → Field) → HoldPairs l.head.lattice l.pairs fields l.state
    → HasPutFront g.O.Sink l.fn.out l.out
    (l.fn.line ++ flat_map (λ i. pair_line l.head.lattice (time_at l.head.times.now i) l.at.time l.at.sample l.at.slot (fields i (l.at.sample % 64))) (table (λ i. i) l.i)) l.line
