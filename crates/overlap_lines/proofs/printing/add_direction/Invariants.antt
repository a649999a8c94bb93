-- The lines over at most k steps are added.
use Rattle.std.proofs.Common.{◌+◌, ◌*◌, ◌++◌, flat_map}
use Rattle.glass_edges.specs.Writes.{HasPutFront}
use Rattle.spin_model.specs.Steps.{table}
use Rattle.spin_model.specs.Lattice.{volume}
use Rattle.overlap_lines.specs.LineText.{line_line}
use Rattle.overlap_lines.specs.CountedText.{sum_at}
use Rattle.overlap_lines.proofs.printing.add_direction.Given as goal

abbrev pub invariant-distances : goal.invariant-distances
invariant-distances g l = HasPutFront g.O.Sink l.fn.out l.out
    (l.fn.line ++ flat_map (λ k. line_line l.slot.sample l.slot.number l.d (k + 1) (sum_at l.counts (32 * l.d + (k + 1)) l.slot.sample (volume l.lattice))) (table (λ k. k) l.k)) l.line
