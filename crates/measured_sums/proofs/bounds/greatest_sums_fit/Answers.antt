use Rattle.measured_sums.proofs.GreatestSums.{quantities-fit, distances-fit}
use Rattle.measured_sums.proofs.bounds.greatest_sums_fit.Goals as goal

pub returns : goal.returns
returns c = λ l lawful. (quantities-fit l lawful, λ r. distances-fit l lawful)
