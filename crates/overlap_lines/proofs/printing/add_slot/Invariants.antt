-- The link overlap and the directions before d are added.
use Rattle.std.proofs.Common.{◌++◌, flat_map}
use Rattle.glass_edges.specs.Writes.{HasPutFront}
use Rattle.spin_model.specs.Steps.{table}
use Rattle.spin_model.specs.Lattice.{bond_count}
use Rattle.overlap_lines.specs.LineText.{link_line}
use Rattle.overlap_lines.specs.CountedText.{counted_direction, sum_at}
use Rattle.overlap_lines.proofs.printing.add_slot.Given as goal

abbrev pub invariant-directions : goal.invariant-directions
invariant-directions g l = HasPutFront g.O.Sink l.fn.out l.out
    ((l.fn.line ++ link_line l.slot.sample l.slot.number (sum_at l.counts 0 l.slot.sample (bond_count l.lattice))) ++ flat_map (counted_direction l.lattice l.slot.sample l.slot.number l.counts) (table (λ d. d) l.d)) l.line
