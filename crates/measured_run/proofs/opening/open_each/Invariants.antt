use Rattle.std.specs.Arc.{arc_value}
use Rattle.std.specs.Prelude.{All}
use Rattle.std.specs.Vec.Iter.{into_iter_items, into_iter_len}
use Rattle.std.proofs.Common.{◌≡◌, ◌++◌, length, map, take}
use Rattle.measured_run.specs.Banks.{plans_in, bases_in}
use Rattle.measured_run.specs.KeptRuns.{IsOnCourse}
use Rattle.measured_run.proofs.opening.open_each.Given as goal

abbrev pub invariant-banks : goal.invariant-banks
invariant-banks l = record {
  steps : l.yielded ++ into_iter_items l.base-iterator ≡ into_iter_items l.initial.base-iterator;
  left : into_iter_len l.base-iterator ≡ length (into_iter_items l.base-iterator);
  bases : bases_in l.banks.items ≡ l.yielded;
  plans : plans_in l.banks.items ≡ take (length l.banks.items) (map arc_value l.plans);
  course : All (IsOnCourse l.course) l.banks.items;
}
