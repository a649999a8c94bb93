use Rattle.glass_main.proofs.ReadRuns.{saved-run-read}
use Rattle.run_laws.proofs.laws.saved_runs_are_read.Goals as goal

pub returns : goal.returns
returns c = λ planned until states lawful are time. saved-run-read planned until states lawful are time
