-- The pairs before p are added.
use Rattle.std.proofs.Common.{◌++◌, List, flat_map}
use Rattle.glass_edges.specs.Writes.{HasPutFront}
use Rattle.spin_model.specs.Steps.{table}
use Rattle.plane_sweep.specs.declared.replica.Duo.{Duo}
use Rattle.quenched_states.specs.CrossText.{pair_lines}
use Rattle.copies_report.specs.Held.{bank_fields, HoldCopies}
use Rattle.copies_report.specs.States.{pair_at}
use Rattle.copies_report.proofs.writer.add_slot.Given as goal

abbrev pub invariant-pairs : goal.invariant-pairs
invariant-pairs g l = (first second : List Duo) → HoldCopies l.head.lattice first second l.room l.head.slots
    → HasPutFront g.O.Sink l.fn.out l.out (l.fn.line
    ++ flat_map (λ p. pair_lines l.head.lattice l.sample l.slot (pair_at p) (bank_fields l.head.lattice first second l.sample l.slot (pair_at p))) (table (λ p. p) l.p)) l.line
