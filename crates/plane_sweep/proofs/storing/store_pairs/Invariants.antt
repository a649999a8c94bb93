use Rattle.scalar_rule.specs.Epoch.{pair_at}
use Rattle.plane_sweep.specs.Storing.{Changed, StoresPair}
use Rattle.plane_sweep.proofs.storing.store_pairs.Given as goal

abbrev pub invariant-pairs : goal.invariant-pairs
invariant-pairs l = Changed (λ k. StoresPair (pair_at l.parts k)) l.k l.fn.pairs l.pairs
