use Rattle.std.proofs.Common.{◌^◌}
use Rattle.model_laws.proofs.DrawCounts.{up-draws, down-draws}
use Rattle.model_laws.proofs.balance.heat_bath_draws.Goals as goal

pub returns : goal.returns
returns c = λ thresholds a k old within. (up-draws thresholds a k old (2 ^ 32) within, down-draws thresholds a k old (2 ^ 32) within)
