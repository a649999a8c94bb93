use Rattle.glass_engine.proofs.SavedRuns.{whole-checkpoint}
use Rattle.glass_engine.proofs.laws.whole_checkpoint_is_the_rules.Goals as goal

pub returns : goal.returns
returns c = λ run d level takes end. whole-checkpoint run d level takes end
