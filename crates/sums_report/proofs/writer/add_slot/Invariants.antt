-- The bins before k are added.
use Rattle.std.proofs.Common.{◌++◌, flat_map, if◌then◌else◌, nat_lt, []}
use Rattle.glass_edges.specs.Writes.{HasPutFront}
use Rattle.spin_model.specs.Steps.{table}
use Rattle.measured_sums.specs.MeasuredSums.{epochs_in_bin}
use Rattle.measured_sums.specs.SumsText.{bin_lines}
use Rattle.sums_report.specs.HeldSums.{sums_of_slot}
use Rattle.sums_report.proofs.writer.add_slot.Given as goal

abbrev pub invariant-bins : goal.invariant-bins
invariant-bins g l = HasPutFront g.O.Sink l.fn.out l.out
    (l.fn.line ++ flat_map (λ k. if nat_lt 0 (epochs_in_bin l.head.every k l.head.from l.head.to)
    then bin_lines l.head.size l.place.sample l.place.slot k (sums_of_slot l.sums l.place.sample k) else []) (table (λ k. k) l.k)) l.line
