use Rattle.spin_model.proofs.Streams.{get_or-advanced}
use Rattle.spin_model.proofs.laws.state_is_window.Goals as goal

pub returns : goal.returns
returns c = get_or-advanced
