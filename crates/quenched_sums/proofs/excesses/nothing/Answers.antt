-- Each number is 0.
use Rattle.plane_sums.proofs.Signed.{signed-zeros}
use Rattle.quenched_sums.proofs.excesses.nothing.Goals as goal

pub returns : goal.returns
returns c = λ b. signed-zeros 64 b
