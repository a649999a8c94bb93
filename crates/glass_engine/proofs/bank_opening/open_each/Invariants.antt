use Rattle.std.proofs.Common.{◌≡◌, ◌-◌, ◌*◌, ◌++◌, length, map, drop}
use Rattle.std.specs.Arc.{arc_value}
use Rattle.std.specs.Vec.Iter.{into_iter_items, into_iter_len}
use Rattle.glass_engine.specs.BankRuns.{bank_runs, for_samples}
use Rattle.glass_engine.proofs.bank_opening.open_each.Given as goal

abbrev pub invariant-banks : goal.invariant-banks
invariant-banks l = record {
  steps : l.yielded ++ into_iter_items l.stand-iterator ≡ into_iter_items l.initial.stand-iterator;
  left : into_iter_len l.stand-iterator ≡ length (into_iter_items l.stand-iterator);
  count : length l.runs.items ≡ length l.yielded;
  runs : l.runs.items ++ bank_runs (drop (length l.yielded) (map arc_value l.plans)) (into_iter_items l.stand-iterator)
      (for_samples (l.orders.samples - 64 * length l.yielded) l.orders) l.until l.save
      ≡ bank_runs (map arc_value l.plans) (into_iter_items l.initial.stand-iterator) l.orders l.until l.save;
}
