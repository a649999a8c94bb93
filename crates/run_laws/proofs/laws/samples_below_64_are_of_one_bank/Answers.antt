use Rattle.glass_main.proofs.OneOfBanks.{one-of-banks}
use Rattle.run_laws.proofs.laws.samples_below_64_are_of_one_bank.Goals as goal

pub returns : goal.returns
returns c = λ file files planned one b several many few below. one-of-banks file files planned one b several many few below
