-- The samples so far have their generators.
use Rattle.std.proofs.Common.{◌≡◌, ◌+◌}
use Rattle.spin_model.specs.Seeding.{coupling_words}
use Rattle.spin_model.specs.Steps.{table}
use Rattle.coupling_set.proofs.drawing.seeded_wheels.Given as goal

abbrev pub invariant-samples : goal.invariant-samples
invariant-samples l = l.wheels.items ≡ table (λ b. coupling_words l.seed (l.first + b)) l.b
