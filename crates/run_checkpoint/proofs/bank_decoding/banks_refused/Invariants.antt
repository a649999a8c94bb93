use Rattle.std.proofs.Common.{◌≡◌, ◌*◌, map, drop}
use Rattle.std.specs.Arc.{arc_value}
use Rattle.run_checkpoint.specs.BankDecoding.{banks_refused}
use Rattle.run_checkpoint.proofs.bank_decoding.banks_refused.Given as goal

abbrev pub invariant-banks : goal.invariant-banks
invariant-banks l =
    banks_refused l.len l.until (drop l.g (map arc_value l.plans)) (drop (l.len * l.g) l.bytes) ≡ banks_refused l.len l.until (map arc_value l.plans) l.bytes
