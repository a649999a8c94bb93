use Rattle.plane_sweep.specs.Storing.{StoresWords}
use Rattle.plane_sweep.proofs.storing.store_words.Given as goal

abbrev pub invariant-places : goal.invariant-places
invariant-places l = StoresWords l.lattice l.sample l.spins l.colour l.z l.k l.fn.words l.words
