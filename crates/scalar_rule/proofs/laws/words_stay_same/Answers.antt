use Rattle.scalar_rule.proofs.SampleWords.{serial-same}
use Rattle.scalar_rule.proofs.laws.words_stay_same.Goals as goal

pub returns : goal.returns
returns c = serial-same
