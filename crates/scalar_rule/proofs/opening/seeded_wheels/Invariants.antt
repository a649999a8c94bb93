use Rattle.std.proofs.Common.{◌≡◌, ◌/◌, ◌%◌}
use Rattle.spin_model.specs.Seeding.{sweep_words}
use Rattle.spin_model.specs.Steps.{table}
use Rattle.scalar_rule.proofs.opening.seeded_wheels.Given as goal

abbrev pub invariant-wheels : goal.invariant-wheels
invariant-wheels l = l.wheels.items ≡ table (λ k. sweep_words l.seed l.slot l.replica (k / l.lattice) (k % l.lattice)) l.k
