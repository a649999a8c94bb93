use Rattle.fair_runs.proofs.Places.{others-dont_count}
use Rattle.fair_runs.proofs.other_places_dont_count.Goals as goal

pub returns : goal.returns
returns c = others-dont_count
