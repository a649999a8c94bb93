use Rattle.run_laws.proofs.Measures.{sums-save}
use Rattle.run_laws.proofs.laws.sums_save_as_runs.Goals as goal

pub returns : goal.returns
returns c = sums-save
