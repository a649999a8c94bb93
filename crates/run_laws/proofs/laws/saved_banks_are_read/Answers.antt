use Rattle.glass_main.proofs.ReadRuns.{saved-banks-read}
use Rattle.run_laws.proofs.laws.saved_banks_are_read.Goals as goal

pub returns : goal.returns
returns c = λ planned epoch until states plans are time. saved-banks-read planned epoch until states plans are time
