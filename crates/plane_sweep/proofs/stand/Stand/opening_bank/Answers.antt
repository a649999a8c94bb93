use Rattle.plane_sweep.proofs.BeginningStates.{begins-stand, beginning-fits}
use Rattle.plane_sweep.proofs.stand.Stand.opening_bank.Goals as goal

pub returns-clause-opening : goal.returns-clause-opening
returns-clause-opening c = begins-stand _ _ _ _ _ c.in_ok-opening_slots.ensures c.in_ok-opening_pairs.ensures

pub returns-clause-fits : goal.returns-clause-fits
returns-clause-fits c = beginning-fits _ c.args.start c.args.bank _ _ c.in_ok-opening_slots.ensures c.in_ok-opening_pairs.ensures
