use Rattle.std.specs.Prelude.{vec_capacity}
use Rattle.std.specs.Vec.Iter.{into_iter_items, into_iter_len}
use Rattle.std.proofs.Common.{◌≡◌, ◌≤◌, ◌++◌, length}
use Rattle.measured_run.specs.Cells.{sums_in}
use Rattle.measured_run.specs.Opens.{duos_in}
use Rattle.measured_run.proofs.driven.part_cells.Given as goal

abbrev pub invariant-slots : goal.invariant-slots
invariant-slots l = record {
  steps : l.yielded ++ into_iter_items l.cell-iterator ≡ into_iter_items l.initial.cell-iterator;
  left : into_iter_len l.cell-iterator ≡ length (into_iter_items l.cell-iterator);
  duos : l.duos.items ≡ duos_in l.yielded;
  sums : l.sums.items ≡ sums_in l.yielded;
  duos_room : length (into_iter_items l.initial.cell-iterator) ≤ vec_capacity l.duos;
  sums_room : length (into_iter_items l.initial.cell-iterator) ≤ vec_capacity l.sums;
}
