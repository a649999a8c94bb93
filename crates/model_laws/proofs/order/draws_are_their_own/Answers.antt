use Rattle.model_laws.proofs.Ordering.{draws-apart}
use Rattle.model_laws.proofs.order.draws_are_their_own.Goals as goal

pub returns : goal.returns
returns c = draws-apart
