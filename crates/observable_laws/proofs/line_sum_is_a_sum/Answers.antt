use Rattle.observable_laws.proofs.Products.{line-sum}
use Rattle.observable_laws.proofs.line_sum_is_a_sum.Goals as goal

pub returns : goal.returns
returns c = line-sum
