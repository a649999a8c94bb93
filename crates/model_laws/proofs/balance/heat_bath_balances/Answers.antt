use Rattle.model_laws.proofs.Balancing.{heat-balances}
use Rattle.model_laws.proofs.balance.heat_bath_balances.Goals as goal

pub returns : goal.returns
returns c = heat-balances
