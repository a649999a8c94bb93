use Rattle.std.proofs.Common.{◌≡◌, ◌+◌, ◌*◌, ◌/◌, ◌%◌}
use Rattle.spin_model.specs.Steps.{table}
use Rattle.spin_model.specs.Stream.{advanced, draw}
use Rattle.spin_model.specs.Words.{is_set}
use Rattle.scalar_rule.proofs.opening.random_spins.Given as goal

abbrev pub invariant-sites : goal.invariant-sites
invariant-sites l = record {
  wheel : l.wheel ≡ advanced l.fn.wheel (2 * l.counter);
  spins : l.spins.items ≡ table (λ i. is_set (draw l.fn.wheel (2 * i + l.bit / 32)) (l.bit % 32)) l.counter;
}
