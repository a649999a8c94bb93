use Rattle.potts_laws.proofs.Sweeps.{partition-positive}
use Rattle.potts_laws.proofs.partition_is_positive.Goals as goal

pub returns : goal.returns
returns c = partition-positive
