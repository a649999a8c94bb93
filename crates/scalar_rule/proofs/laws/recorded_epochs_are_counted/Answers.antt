use Rattle.scalar_rule.proofs.RecordedEpochs.{epochs-counted}
use Rattle.scalar_rule.proofs.laws.recorded_epochs_are_counted.Goals as goal

pub returns : goal.returns
returns c = λ every from to some window. epochs-counted every from to some window
