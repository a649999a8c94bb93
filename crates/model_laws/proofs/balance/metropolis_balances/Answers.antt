use Rattle.model_laws.proofs.Balancing.{metropolis-balances}
use Rattle.model_laws.proofs.balance.metropolis_balances.Goals as goal

pub returns : goal.returns
returns c = metropolis-balances
