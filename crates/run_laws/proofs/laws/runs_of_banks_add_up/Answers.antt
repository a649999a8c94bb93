use Rattle.run_laws.proofs.RunsOfBanks.{banks-add-up}
use Rattle.run_laws.proofs.laws.runs_of_banks_add_up.Goals as goal

pub returns : goal.returns
returns c = banks-add-up
