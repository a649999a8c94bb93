use Rattle.std.proofs.Common.{◌≡◌, ◌/◌, ◌%◌}
use Rattle.spin_model.specs.Steps.{table}
use Rattle.spin_model.specs.Seeding.{potts_sweep_words}
use Rattle.potts_glass.proofs.start.seeded_wheels.Given as goal

abbrev pub invariant-wheels : goal.invariant-wheels
invariant-wheels l = l.wheels.items ≡ table (λ k. potts_sweep_words l.seed (k / l.lattice) (k % l.lattice)) l.k
