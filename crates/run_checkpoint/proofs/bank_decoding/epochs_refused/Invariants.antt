use Rattle.std.proofs.Common.{◌≡◌, ◌*◌, ◌-◌, drop}
use Rattle.run_checkpoint.specs.BankDecoding.{epochs_refused}
use Rattle.run_checkpoint.proofs.bank_decoding.epochs_refused.Given as goal

abbrev pub invariant-banks : goal.invariant-banks
invariant-banks l =
    epochs_refused l.len l.first l.g (l.count - l.g) (drop (l.len * l.g) l.bytes) ≡ epochs_refused l.len l.first 0 l.count l.bytes
