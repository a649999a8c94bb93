use Rattle.model_laws.proofs.Ordering.{swept-site}
use Rattle.model_laws.proofs.order.sites_go_at_once.Goals as goal

pub returns : goal.returns
returns c = swept-site
