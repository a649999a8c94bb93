use Rattle.std.proofs.Common.{◌≡◌, All, length}
use Rattle.run_checkpoint.specs.Unfilled.{HasRoom}
use Rattle.run_checkpoint.proofs.bank_decoding.unfilled_stands.Given as goal

abbrev pub invariant-banks : goal.invariant-banks
invariant-banks l = (length l.stands.items ≡ l.g) × All (HasRoom l.size l.count) l.stands.items
