use Rattle.run_laws.proofs.SampleBanks.{of-their-banks}
use Rattle.run_laws.proofs.laws.samples_are_of_their_banks.Goals as goal

pub returns : goal.returns
returns c = of-their-banks
