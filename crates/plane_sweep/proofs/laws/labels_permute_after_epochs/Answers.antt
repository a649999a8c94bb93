use Rattle.plane_sweep.proofs.LabelEpochs.{serial-permutes}
use Rattle.plane_sweep.proofs.laws.labels_permute_after_epochs.Goals as goal

pub returns : goal.returns
returns c = λ plan s e paired labels. serial-permutes plan s e paired labels
