use Rattle.run_laws.proofs.Packing.{checkpoints}
use Rattle.run_laws.proofs.laws.orders_dont_reach_checkpoints.Goals as goal

pub returns : goal.returns
returns c = checkpoints
