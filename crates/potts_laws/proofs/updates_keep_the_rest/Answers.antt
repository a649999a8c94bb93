use Rattle.potts_laws.proofs.Balancing.{updates-keep}
use Rattle.potts_laws.proofs.updates_keep_the_rest.Goals as goal

pub returns : goal.returns
returns c = updates-keep
