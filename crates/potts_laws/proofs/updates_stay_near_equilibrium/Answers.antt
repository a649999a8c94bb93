use Rattle.potts_laws.proofs.Updates.{updates-stay_near}
use Rattle.potts_laws.proofs.updates_stay_near_equilibrium.Goals as goal

pub returns : goal.returns
returns c = updates-stay_near
