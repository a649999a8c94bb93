use Rattle.std.proofs.Common.{◌≡◌, ◌≤◌}
use Rattle.spin_model.specs.Steps.{count_below}
use Rattle.scalar_rule.specs.Sums.{is_unsatisfied}
use Rattle.scalar_rule.proofs.sums.unsatisfied_by.Given as goal

abbrev pub invariant-bonds : goal.invariant-bonds
invariant-bonds g l = record {
  value : l.count ≡ count_below (is_unsatisfied l.lattice (g.B.Bonds.negative l.bonds) l.spins) l.n;
  within : l.count ≤ l.n;
}
