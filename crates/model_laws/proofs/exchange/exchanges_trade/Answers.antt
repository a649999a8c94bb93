use Rattle.model_laws.proofs.Traded.{exchanges-trade}
use Rattle.model_laws.proofs.exchange.exchanges_trade.Goals as goal

pub returns : goal.returns
returns c = exchanges-trade
