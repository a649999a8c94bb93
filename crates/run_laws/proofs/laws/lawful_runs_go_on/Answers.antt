use Rattle.run_laws.proofs.NextRuns.{lawful-go-on}
use Rattle.run_laws.proofs.laws.lawful_runs_go_on.Goals as goal

pub returns : goal.returns
returns c = lawful-go-on
