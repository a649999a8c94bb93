use Rattle.model_laws.proofs.ExchangeBalancing.{exchange-balances}
use Rattle.model_laws.proofs.exchange.exchange_balances.Goals as goal

pub returns : goal.returns
returns c = exchange-balances
