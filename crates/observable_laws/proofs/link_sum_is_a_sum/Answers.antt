use Rattle.observable_laws.proofs.Products.{link-sum}
use Rattle.observable_laws.proofs.link_sum_is_a_sum.Goals as goal

pub returns : goal.returns
returns c = link-sum
