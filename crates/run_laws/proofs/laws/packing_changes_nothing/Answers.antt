use Rattle.run_laws.proofs.Packing.{packing}
use Rattle.run_laws.proofs.laws.packing_changes_nothing.Goals as goal

pub returns : goal.returns
returns c = packing
