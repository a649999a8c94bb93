use Rattle.glass_engine.proofs.BankLaws.{below-64}
use Rattle.glass_engine.proofs.laws.samples_below_64_are_of_bank_0.Goals as goal

pub returns : goal.returns
returns c = λ bank banks b below. below-64 bank banks b below
