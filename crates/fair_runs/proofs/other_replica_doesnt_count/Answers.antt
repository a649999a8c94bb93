use Rattle.fair_runs.proofs.Places.{replica-alone}
use Rattle.fair_runs.proofs.other_replica_doesnt_count.Goals as goal

pub returns : goal.returns
returns c = replica-alone
