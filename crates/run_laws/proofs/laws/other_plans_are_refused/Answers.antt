use Rattle.run_laws.proofs.Seals.{others-refused}
use Rattle.run_laws.proofs.laws.other_plans_are_refused.Goals as goal

pub returns : goal.returns
returns c = others-refused
