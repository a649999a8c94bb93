use Rattle.std.proofs.Common.{◌^◌, ◌∙◌}
use Rattle.model_laws.proofs.DrawCounts.{turned-draws, kept-draws, flips-all, flips-some}
use Rattle.model_laws.proofs.balance.metropolis_draws.Goals as goal

pub returns : goal.returns
returns c = λ thresholds a k old. (
  (λ few. turned-draws thresholds a k old (2 ^ 32) ∙ flips-all thresholds k (2 ^ 32) few),
  (λ many within. let some = flips-some thresholds k (2 ^ 32) many within in
      let kept = kept-draws thresholds a k old (2 ^ 32) in
      (turned-draws thresholds a k old (2 ^ 32) ∙ some, rw some at kept)),
)
