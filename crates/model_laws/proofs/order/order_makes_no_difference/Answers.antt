use Rattle.model_laws.proofs.Ordering.{any-order}
use Rattle.model_laws.proofs.order.order_makes_no_difference.Goals as goal

pub returns : goal.returns
returns c = any-order
