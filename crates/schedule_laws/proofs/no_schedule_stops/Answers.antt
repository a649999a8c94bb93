use Rattle.schedule_laws.proofs.Stopping.{none-stops}
use Rattle.schedule_laws.proofs.no_schedule_stops.Goals as goal

pub returns : goal.returns
returns c = none-stops
