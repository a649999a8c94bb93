use Rattle.glass_main.proofs.AddingUp.{add-up}
use Rattle.run_laws.proofs.laws.stopped_runs_add_up.Goals as goal

pub returns : goal.returns
returns c = λ planned until from left lawful orders begins upto are. add-up planned until from left lawful orders begins upto are
