use Rattle.plane_sweep.specs.Beginnings.{Each, BeginsPair}
use Rattle.plane_sweep.proofs.opening.opening_pairs.Given as goal

abbrev pub invariant-opened : goal.invariant-opened
invariant-opened l = Each (BeginsPair l.plan l.bank) l.pair l.pairs.items
