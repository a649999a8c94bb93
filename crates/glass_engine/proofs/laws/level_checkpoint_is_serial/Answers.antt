use Rattle.glass_engine.proofs.SavedRuns.{level-checkpoint}
use Rattle.glass_engine.proofs.laws.level_checkpoint_is_serial.Goals as goal

pub returns : goal.returns
returns c = λ run stand start d level takes base fits stands end. level-checkpoint run stand start d level takes base fits stands end
