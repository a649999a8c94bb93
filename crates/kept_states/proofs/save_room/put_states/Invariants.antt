use Rattle.std.specs.Vec.Iter.{into_iter_items, into_iter_len}
use Rattle.std.specs.Arc.{arc_value}
use Rattle.std.specs.Prelude.{flat_map}
use Rattle.std.proofs.Common.{◌≡◌, ℕ, [], ◌+◌, ◌*◌, ◌<◌, ◌++◌, length, map, get_or}
use Rattle.kept_states.specs.Levels.{level_len, stands_encoding, AreLevel}
use Rattle.kept_states.proofs.save_room.put_states.Given as goal

abbrev pub invariant-states : goal.invariant-states
invariant-states l =
    let plans = map arc_value l.plans in
    let rest = into_iter_items l.banks-iterator in
    record {
      left : into_iter_len l.banks-iterator ≡ length rest;
      fit : (j : ℕ) → j < length rest → AreLevel plans (get_or rest j []);
      bytes : l.kept.bytes ++ flat_map (stands_encoding plans) rest ≡ l.fn.kept.bytes ++ flat_map (stands_encoding plans) l.fn.states;
      spare : l.kept.spare + length l.fn.states * level_len plans ≡ l.fn.kept.spare + length rest * level_len plans;
      limit : l.level.limit ≡ l.fn.level.limit;
      slots : l.level.slots ≡ l.fn.level.slots;
    }
