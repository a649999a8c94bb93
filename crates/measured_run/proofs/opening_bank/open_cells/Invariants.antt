use Rattle.std.specs.Prelude.{All}
use Rattle.std.proofs.Common.{◌≡◌, ◌++◌, length}
use Rattle.std.specs.Vec.Iter.{into_iter_items, into_iter_len}
use Rattle.measured_run.specs.Opens.{duos_in, IsNew}
use Rattle.measured_run.specs.declared.cell.Cell.{Cell}
use Rattle.measured_run.proofs.opening_bank.open_cells.Given as goal

abbrev pub invariant-slots : goal.invariant-slots
invariant-slots l = record {
  steps : l.yielded ++ into_iter_items l.duo-iterator ≡ into_iter_items l.initial.duo-iterator;
  left : into_iter_len l.duo-iterator ≡ length (into_iter_items l.duo-iterator);
  duos : duos_in l.cells.items ≡ l.yielded;
  new : All (λ (cell : Cell). IsNew l.from l.until cell.sums) l.cells.items;
}
