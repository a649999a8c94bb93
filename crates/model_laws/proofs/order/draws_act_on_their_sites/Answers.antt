use Rattle.model_laws.proofs.Ordering.{own-draw}
use Rattle.model_laws.proofs.order.draws_act_on_their_sites.Goals as goal

pub returns : goal.returns
returns c = own-draw
