use Rattle.std.proofs.Common.{◌≡◌, ◌++◌, ◌≤◌, length}
use Rattle.std.specs.Prelude.{All, vec_capacity}
use Rattle.std.specs.Vec.Iter.{into_iter_items, into_iter_len}
use Rattle.glass_engine.specs.BankRuns.{runs_of}
use Rattle.glass_engine.specs.Runs.{DoneView, IsEnd}
use Rattle.glass_engine.proofs.driving.drive_each.Given as goal

abbrev pub invariant-banks : goal.invariant-banks
invariant-banks g l = record {
  steps : l.yielded ++ into_iter_items l.opened-iterator ≡ into_iter_items l.initial.opened-iterator;
  left : into_iter_len l.opened-iterator ≡ length (into_iter_items l.opened-iterator);
  driven : runs_of l.driven.items ≡ l.yielded;
  ended : All (λ (d : DoneView). IsEnd d.run d.ended) l.driven.items;
  room : length (into_iter_items l.initial.opened-iterator) ≤ vec_capacity l.driven;
}
