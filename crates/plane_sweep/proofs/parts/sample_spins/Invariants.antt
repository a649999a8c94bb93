use Rattle.std.proofs.Common.{◌≡◌}
use Rattle.spin_model.specs.Steps.{table}
use Rattle.spin_model.specs.Words.{is_set}
use Rattle.plane_sweep.specs.Packed.{word_at}
use Rattle.plane_sweep.proofs.parts.sample_spins.Given as goal

abbrev pub invariant-sites : goal.invariant-sites
invariant-sites l = l.spins.items ≡ table (λ i. is_set (word_at l.lattice l.planes i) l.sample) l.site
