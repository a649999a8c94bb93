use Rattle.measured_sums.specs.PlaneFamilies.{plane_sum}
use Rattle.measured_sums.proofs.SignedTerms.{distances-turn}
use Rattle.measured_sums.proofs.fields.distances_turn.Goals as goal

pub returns : goal.returns
returns c = λ l q family r lawful within. distances-turn (plane_sum l q family) l r within
