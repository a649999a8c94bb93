use Rattle.std.proofs.Common.{◌^◌}
use Rattle.model_laws.proofs.ExchangeBalancing.{swaps-all, swaps-some}
use Rattle.model_laws.proofs.exchange.swapping_draws.Goals as goal

pub returns : goal.returns
returns c = λ table pair cold hot. ((λ few. swaps-all (2 ^ 32) table pair cold hot few), (λ more within. swaps-some (2 ^ 32) table pair cold hot more within))
