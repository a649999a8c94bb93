use Rattle.glass_main.proofs.ReadRuns.{saved-run-goes-on}
use Rattle.run_laws.proofs.laws.saved_runs_go_on.Goals as goal

pub returns : goal.returns
returns c = λ planned from e until lawful orders begins upto within fit. saved-run-goes-on planned from e until lawful orders begins upto within fit
