use Rattle.glass_main.proofs.ReadStops.{saved-read}
use Rattle.run_laws.proofs.laws.saved_stops_are_read.Goals as goal

pub returns : goal.returns
returns c = λ planned until came lawful orders last fits deep. saved-read planned until came lawful orders last fits deep
