-- The slots before this one are added.
use Rattle.std.proofs.Common.{◌++◌, flat_map}
use Rattle.glass_edges.specs.Writes.{HasPutFront}
use Rattle.spin_model.specs.Steps.{table}
use Rattle.measured_sums.specs.SumsText.{slot_sums}
use Rattle.sums_report.specs.HeldSums.{heading_of, held_sums}
use Rattle.sums_report.proofs.writer.add_sample.Given as goal

abbrev pub invariant-slots : goal.invariant-slots
invariant-slots g l = HasPutFront g.O.Sink l.fn.out l.out
    (l.fn.line ++ flat_map (slot_sums (heading_of l.head) (held_sums l.banks) l.sample) (table (λ t. t) l.slot)) l.line
