use Rattle.std.specs.Vec.Iter.{into_iter_items, into_iter_len}
use Rattle.std.specs.Arc.{arc_value}
use Rattle.std.proofs.Common.{◌≡◌, [], ◌+◌, ◌++◌, length, drop, map}
use Rattle.kept_states.specs.Levels.{banks_spare, AreLevel}
use Rattle.run_checkpoint.specs.BankEncoding.{banks_bytes, banks_parts}
use Rattle.kept_states.proofs.level_room.put_banks.Given as goal

abbrev pub invariant-banks : goal.invariant-banks
invariant-banks l =
    let plans = map arc_value l.plans in
    let rest = into_iter_items l.stand-iterator in
    record {
      left : into_iter_len l.stand-iterator ≡ length rest;
      count : l.g + length rest ≡ length l.plans;
      fit : AreLevel (drop l.g plans) rest;
      bytes : l.bytes.bytes ++ banks_bytes (drop l.g plans) (banks_parts (drop l.g plans) rest) ≡ l.fn.bytes.bytes ++ banks_bytes plans (banks_parts plans l.fn.stands);
      len : length l.bytes.bytes + banks_spare (drop l.g plans) ≡ length l.fn.bytes.bytes + banks_spare plans;
      spare : l.bytes.spare + banks_spare plans ≡ l.fn.bytes.spare + banks_spare (drop l.g plans);
      slots : length l.bank.places ≡ length l.fn.bank.places;
      pending : l.bank.pending ≡ [];
    }
