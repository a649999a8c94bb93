use Rattle.model_laws.proofs.ExchangeBalancing.{exact-entries}
use Rattle.model_laws.proofs.exchange.exact_entries_balance.Goals as goal

pub returns : goal.returns
returns c = exact-entries
