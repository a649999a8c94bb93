-- The couplings are as many words of 64 bits as there are bonds.
use Rattle.std.proofs.Common.{subst}
use Rattle.coupling_set.specs.CouplingWords.{AreCouplings}
use Rattle.coupling_set.proofs.KeptPlaces.{kept-are_couplings}
use Rattle.coupling_set.proofs.couplings.Couplings.size.Goals as goal

pub returns-clause-lawful : goal.returns-clause-lawful
returns-clause-lawful c =
    let known = c.self.invariant in
    subst AreCouplings c.self.view_is (kept-are_couplings c.self.inside.lattice c.self.inside.words known.lawful known.sized known.in_range)
