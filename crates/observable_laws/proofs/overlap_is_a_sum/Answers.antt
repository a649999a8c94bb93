use Rattle.observable_laws.proofs.Products.{overlap-sum}
use Rattle.observable_laws.proofs.overlap_is_a_sum.Goals as goal

pub returns : goal.returns
returns c = overlap-sum
