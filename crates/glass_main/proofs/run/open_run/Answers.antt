use Rattle.std.proofs.Common.{◌≡◌, ℕ, sym, ◌∙◌, subst}
use Rattle.glass_edges.specs.Refusals.{unless}
use Rattle.run_plan.specs.Amounts.{amount_refusal}
use Rattle.glass_main.specs.Beginnings.{begins_at}
use Rattle.glass_main.specs.Request.{RunWork, run_work}
use Rattle.glass_main.proofs.Amounts.{amount-told, refused-amount}
use Rattle.glass_main.proofs.run.open_run.Goals as goal

pub returns-in-Err-clause-stopped : goal.returns-in-Err-clause-stopped
unfolding run_work
returns-in-Err-clause-stopped c = λ from begins.
    let planned = c.args.planned in
    let at : c.floor_of-from.result ≡ begins_at from = c.floor_of-from.ensures.value ∙ sym begins in
    let told : ℕ → Type 0 = λ n. c.check_amount.result ≡ unless (amount_refusal planned.plan planned.orders n c.args.until) tt in
    let exact = subst told at c.check_amount.ensures.exact in (
      amount-told planned.plan planned.orders (begins_at from) c.args.until c.check_amount.result c.in-Err.refused c.in-Err.is exact,
      refused-amount (amount_refusal planned.plan planned.orders (begins_at from) c.args.until) (RunWork planned from c.args.until c.args.order.now.stop_after) c.check_amount.result c.in-Err.refused c.in-Err.is exact,
    )
