use Rattle.glass_main.proofs.ReadRuns.{accepted-banks}
use Rattle.run_laws.proofs.laws.accepted_banks_are_encodings.Goals as goal

pub returns : goal.returns
returns c = λ planned until bytes starts plans are is. accepted-banks planned until bytes starts plans are is
