use Rattle.potts_laws.proofs.Bonds.{gap-is-change}
use Rattle.potts_laws.proofs.gap_is_energy_change.Goals as goal

pub returns : goal.returns
returns c = gap-is-change
