use Rattle.std.proofs.Common.{arith, ℕ, ◌*◌, ◌≤◌, Option, IfOk, sym, ap, ◌∙◌, subst}
use Rattle.std.specs.Arc.{arc_value}
use Rattle.glass_edges.specs.Refusals.{unless}
use Rattle.run_plan.specs.Amounts.{amount_refusal}
use Rattle.scalar_rule.specs.Records.{recorded_epochs}
use Rattle.run_plan.specs.declared.refused.PlanRefused.{PlanRefused}
use Rattle.scalar_rule.specs.Plan.{Plan, slots_of}
use Rattle.glass_main.proofs.BankRuns.{first-amount, first-shape}
use Rattle.glass_main.proofs.bank_run.check_banks_amount.Goals as goal

pub returns-clause-exact : goal.returns-clause-exact
returns-clause-exact c =
    let orders = c.args.orders.now in
    let first = first-amount arc_value c.args.plans.now c.index-plans-0.result orders c.args.from c.args.until c.requires.some c.index-plans-0.is in
    c.check_amount.ensures.exact
    ∙ ap (λ (found : Option PlanRefused). unless found tt) (ap (λ (p : Plan). amount_refusal p orders c.args.from c.args.until) c.deref-plan.ensures ∙ sym first)

pub returns-clause-rows : goal.returns-clause-rows
returns-clause-rows c = λ size slots shape.
    let orders = c.args.orders.now in
    let same = ap (λ (p : Plan). slots_of p) c.deref-plan.ensures ∙ first-shape arc_value c.args.plans.now c.index-plans-0.result size slots c.requires.some c.index-plans-0.is shape in
    let F : ℕ → Type 0 = λ n. IfOk c.check_amount.result (λ x. orders.samples * n * recorded_epochs orders.every c.args.from c.args.until ≤ 4194304) in
    subst F same c.check_amount.ensures.rows

pub returns-clause-slots : goal.returns-clause-slots
returns-clause-slots c = λ size slots shape.
    let same = ap (λ (p : Plan). slots_of p) c.deref-plan.ensures ∙ first-shape arc_value c.args.plans.now c.index-plans-0.result size slots c.requires.some c.index-plans-0.is shape in
    let some = c.slots.ensures.lawful.rules.some in
    omega (arith, same, some)
