use Rattle.plane_sweep.proofs.LabelSteps.{pair-permutes}
use Rattle.plane_sweep.proofs.laws.labels_permute_after_exchange.Goals as goal

pub returns : goal.returns
returns c = λ plan b k n pair slots long below labels. pair-permutes plan b k n pair slots long below labels
