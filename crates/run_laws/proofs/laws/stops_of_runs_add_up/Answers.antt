use Rattle.run_laws.proofs.StopsOfRuns.{stops-add-up}
use Rattle.run_laws.proofs.laws.stops_of_runs_add_up.Goals as goal

pub returns : goal.returns
returns c = stops-add-up
