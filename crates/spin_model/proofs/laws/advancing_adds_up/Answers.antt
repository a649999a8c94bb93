use Rattle.spin_model.proofs.Streams.{advanced-advanced}
use Rattle.spin_model.proofs.laws.advancing_adds_up.Goals as goal

pub returns : goal.returns
returns c = advanced-advanced
