-- The slots before this one are added.
use Rattle.std.proofs.Common.{◌++◌, List, flat_map}
use Rattle.glass_edges.specs.Writes.{HasPutFront}
use Rattle.spin_model.specs.Steps.{table}
use Rattle.plane_sweep.specs.declared.replica.Duo.{Duo}
use Rattle.quenched_states.specs.CrossText.{copies_lines}
use Rattle.copies_report.specs.Held.{bank_fields, HoldCopies}
use Rattle.copies_report.specs.States.{heading_of}
use Rattle.copies_report.proofs.writer.add_sample.Given as goal

abbrev pub invariant-slots : goal.invariant-slots
invariant-slots g l = (first second : List Duo) → HoldCopies l.head.lattice first second l.room l.head.slots
    → HasPutFront g.O.Sink l.fn.out l.out
    (l.fn.line ++ flat_map (copies_lines (heading_of l.head) (bank_fields l.head.lattice first second) l.sample) (table (λ t. t) l.slot)) l.line
