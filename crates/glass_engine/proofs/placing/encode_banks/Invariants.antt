use Rattle.std.specs.Arc.{arc_value}
use Rattle.std.proofs.Common.{◌≡◌, ◌+◌, ◌*◌, ◌++◌, length, map, drop}
use Rattle.run_checkpoint.specs.BankEncoding.{banks_header, banks_bytes, bank_len}
use Rattle.glass_engine.specs.BankPieces.{ends_in}
use Rattle.glass_engine.proofs.placing.encode_banks.Given as goal

abbrev pub invariant-banks : goal.invariant-banks
invariant-banks l = record {
  bytes : l.room.bytes ++ banks_bytes (drop l.bank (map arc_value l.plans)) (drop l.bank (ends_in l.driven))
      ≡ banks_header (length l.driven) ++ banks_bytes (map arc_value l.plans) (ends_in l.driven);
  long : length l.room.bytes ≡ 12 + bank_len (map arc_value l.plans) * l.bank;
  total : l.room.spare + length l.room.bytes ≡ l.fn.room.spare;
}
