use Rattle.schedule_laws.proofs.Rising.{events-few}
use Rattle.schedule_laws.proofs.events_are_few.Goals as goal

pub returns : goal.returns
returns c = events-few
