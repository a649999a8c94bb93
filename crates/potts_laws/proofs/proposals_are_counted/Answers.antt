use Rattle.potts_laws.proofs.Proposals.{proposals-counted}
use Rattle.potts_laws.proofs.proposals_are_counted.Goals as goal

pub returns : goal.returns
returns c = proposals-counted
