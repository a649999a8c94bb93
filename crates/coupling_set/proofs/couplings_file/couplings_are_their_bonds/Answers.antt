use Rattle.coupling_set.proofs.BondsAsWords.{couplings-with_bonds}
use Rattle.coupling_set.proofs.couplings_file.couplings_are_their_bonds.Goals as goal

pub returns : goal.returns
returns c = λ bonds has. couplings-with_bonds _ bonds c.size.ensures.lawful has
