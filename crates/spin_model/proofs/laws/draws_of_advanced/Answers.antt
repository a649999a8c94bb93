use Rattle.spin_model.proofs.Streams.{draw-advanced}
use Rattle.spin_model.proofs.laws.draws_of_advanced.Goals as goal

pub returns : goal.returns
returns c = draw-advanced
