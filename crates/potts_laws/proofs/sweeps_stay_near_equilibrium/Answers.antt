use Rattle.potts_laws.proofs.Sweeps.{sweeps-stay_near}
use Rattle.potts_laws.proofs.sweeps_stay_near_equilibrium.Goals as goal

pub returns : goal.returns
returns c = sweeps-stay_near
