use Rattle.std.specs.Prelude.{All, vec_capacity}
use Rattle.std.specs.Vec.Iter.{into_iter_items, into_iter_len}
use Rattle.std.proofs.Common.{◌≡◌, ◌≤◌, ◌++◌, length}
use Rattle.measured_run.specs.Ends.{HasEnded, HoldBanks}
use Rattle.measured_run.proofs.driving.drive_each.Given as goal

abbrev pub invariant-banks : goal.invariant-banks
invariant-banks g l = record {
  steps : l.yielded ++ into_iter_items l.run-iterator ≡ into_iter_items l.initial.run-iterator;
  rooms : length l.rooms ≡ length l.fn.rooms;
  left : into_iter_len l.run-iterator ≡ length (into_iter_items l.run-iterator);
  banks : l.ended.items ≡ l.yielded;
  ended : All HasEnded l.yielded;
  sums : HoldBanks l.yielded l.sums.items;
  ended_room : length (into_iter_items l.initial.run-iterator) ≤ vec_capacity l.ended;
  sums_room : length (into_iter_items l.initial.run-iterator) ≤ vec_capacity l.sums;
}
