-- The slots before t are added.
use Rattle.std.proofs.Common.{[], ◌++◌, flat_map, get_or}
use Rattle.glass_edges.specs.Writes.{HasPutFront}
use Rattle.spin_model.specs.Steps.{table}
use Rattle.overlap_lines.specs.CountedText.{counted_slot}
use Rattle.overlap_lines.proofs.printing.add_sample.Given as goal

abbrev pub invariant-slots : goal.invariant-slots
invariant-slots g l = HasPutFront g.O.Sink l.fn.out l.out
    (l.fn.line ++ flat_map (λ t. counted_slot l.plan.size l.sample t (get_or l.counts t [])) (table (λ t. t) l.t)) l.line
