use Rattle.fair_runs.proofs.Places.{place-alone}
use Rattle.fair_runs.proofs.one_place_stays_near_equilibrium.Goals as goal

pub returns : goal.returns
returns c = place-alone
