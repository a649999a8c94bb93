use Rattle.potts_laws.proofs.Balancing.{updates-balance}
use Rattle.potts_laws.proofs.updates_balance.Goals as goal

pub returns : goal.returns
returns c = updates-balance
