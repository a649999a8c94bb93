use Rattle.fair_runs.proofs.PlaceCounts.{places-count}
use Rattle.fair_runs.proofs.decisions_about_places_are_counted.Goals as goal

pub returns : goal.returns
returns c = places-count
