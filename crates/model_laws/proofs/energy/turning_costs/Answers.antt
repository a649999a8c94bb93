use Rattle.model_laws.proofs.Turning.{energy-turned}
use Rattle.model_laws.proofs.energy.turning_costs.Goals as goal

pub returns : goal.returns
returns c = energy-turned
