-- The samples before b are added.
use Rattle.std.proofs.Common.{◌++◌, flat_map}
use Rattle.glass_edges.specs.Writes.{HasPutFront}
use Rattle.spin_model.specs.Steps.{table}
use Rattle.measured_sums.specs.SumsText.{sample_sums}
use Rattle.sums_report.specs.HeldSums.{heading_of, held_sums}
use Rattle.sums_report.proofs.writer.add_samples.Given as goal

abbrev pub invariant-samples : goal.invariant-samples
invariant-samples g l = HasPutFront g.O.Sink l.fn.out l.out
    (l.fn.line ++ flat_map (sample_sums (heading_of l.head) (held_sums l.banks)) (table (λ b. b) l.b)) l.line
