use Rattle.std.proofs.Common.{◌≡◌, take}
use Rattle.quenched_run.proofs.banks.copied_banks.Given as goal

abbrev pub invariant-banks : goal.invariant-banks
invariant-banks l = l.copies.items ≡ take l.g l.banks
