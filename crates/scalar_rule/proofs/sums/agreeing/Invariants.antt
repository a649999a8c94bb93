use Rattle.std.proofs.Common.{◌≡◌, ◌≤◌}
use Rattle.spin_model.specs.Steps.{count_below}
use Rattle.scalar_rule.specs.Neighbours.{agree, spin}
use Rattle.scalar_rule.proofs.sums.agreeing.Given as goal

abbrev pub invariant-sites : goal.invariant-sites
invariant-sites l = record {
  value : l.count ≡ count_below (λ i. agree (spin l.a.spins i) (spin l.b.spins i)) l.site;
  within : l.count ≤ l.site;
}
