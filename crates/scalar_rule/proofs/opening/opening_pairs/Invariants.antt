use Rattle.std.proofs.Common.{◌≡◌}
use Rattle.spin_model.specs.Steps.{table}
use Rattle.scalar_rule.specs.Opening.{opening_pair}
use Rattle.scalar_rule.proofs.opening.opening_pairs.Given as goal

abbrev pub invariant-opened : goal.invariant-opened
invariant-opened l = l.pairs.items ≡ table (opening_pair l.plan l.bank) l.pair
