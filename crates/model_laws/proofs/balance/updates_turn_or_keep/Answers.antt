use Rattle.model_laws.proofs.Balancing.{update-turns}
use Rattle.model_laws.proofs.balance.updates_turn_or_keep.Goals as goal

pub returns : goal.returns
returns c = update-turns
