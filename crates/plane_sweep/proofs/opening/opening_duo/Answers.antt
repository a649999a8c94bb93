use Rattle.plane_sweep.proofs.BeginningStates.{begins-duo}
use Rattle.plane_sweep.proofs.opening.opening_duo.Goals as goal

pub returns : goal.returns
returns c = begins-duo _ _ _ _ _ _ c.in_ok-opening_replica.ensures c.in_ok-opening_replica-2.ensures
