use Rattle.model_laws.proofs.Balancing.{exact-balances}
use Rattle.model_laws.proofs.balance.exact_thresholds_balance.Goals as goal

pub returns : goal.returns
returns c = exact-balances
