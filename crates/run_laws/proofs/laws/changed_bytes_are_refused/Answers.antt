use Rattle.run_laws.proofs.Seals.{changed-refused}
use Rattle.run_laws.proofs.laws.changed_bytes_are_refused.Goals as goal

pub returns : goal.returns
returns c = changed-refused
