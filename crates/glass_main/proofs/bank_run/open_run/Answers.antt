use Rattle.std.specs.Arc.{arc_value}
use Rattle.std.proofs.Common.{arith, ◌≡◌, ℕ, ◌*◌, ◌≤◌, List, None, sym, ap, ◌∙◌, subst, length, map}
use Rattle.std.proofs.lemmas.List.{length-map}
use Rattle.glass_edges.specs.Refusals.{unless}
use Rattle.glass_engine.proofs.BankStarts.{fit-long}
use Rattle.glass_engine.specs.BankRuns.{bank_runs, AreBankStarts}
use Rattle.plane_sweep.specs.declared.stand.Stand.{Stand}
use Rattle.run_checkpoint.specs.BankEncoding.{HaveShape, BanksFit}
use Rattle.scalar_rule.specs.Records.{recorded_epochs}
use Rattle.run_plan.specs.declared.run_file.Orders.{Orders}
use Rattle.scalar_rule.specs.Plan.{Plan}
use Rattle.glass_main.proofs.Amounts.{refused-amount}
use Rattle.glass_main.proofs.BankRuns.{first-at, amount-none, banks-told, have-slots, opened-ready, opened-runs}
use Rattle.glass_main.specs.Opened.{saves_as}
use Rattle.glass_main.specs.ManyBanks.{PlannedBanks, banks_amount_refusal, starts_at, stands_at}
use Rattle.command_words.specs.ReadCommand.{name_bytes}
use Rattle.glass_main.specs.Request.{BanksWork, banks_work}
use Rattle.glass_main.specs.declared.finishing.Opened.{Opened}
use Rattle.glass_main.proofs.bank_run.open_run.Goals as goal

pub at-requires : goal.at-requires
at-requires c =
    let long = fit-long c.requires.stands.epoch c.args.planned.plans c.args.stands c.requires.stands.fit in
    let view = ap (λ (p : PlannedBanks). length p.plans) c.planned.view_is in
    let own = length-map c.planned.inside.plans.items arc_value in
    let count = c.planned.invariant.count in
    let several = c.planned.invariant.several in
    omega arith

pub check_banks_amount-requires-clause-window : goal.check_banks_amount-requires-clause-window
check_banks_amount-requires-clause-window c =
    let view = ap (λ (p : PlannedBanks). length p.plans) c.planned.view_is in
    let own = length-map c.planned.inside.plans.items arc_value in
    let count = c.planned.invariant.count in
    let several = c.planned.invariant.several in
    let at = (first-at c.args.planned.plans c.args.until c.args.stands c.at.result.now c.requires.stands (omega arith) c.at.ensures).1 in
    let time = c.requires.stands.in_time in
    omega arith

pub sheets_of-requires-clause-window : goal.sheets_of-requires-clause-window
sheets_of-requires-clause-window c =
    let view = ap (λ (p : PlannedBanks). length p.plans) c.planned.view_is in
    let own = length-map c.planned.inside.plans.items arc_value in
    let count = c.planned.invariant.count in
    let several = c.planned.invariant.several in
    let at = (first-at c.args.planned.plans c.args.until c.args.stands c.at.result.now c.requires.stands (omega arith) c.at.ensures).1 in
    let time = c.requires.stands.in_time in
    omega arith

pub returns-in-Err-clause-stopped : goal.returns-in-Err-clause-stopped
unfolding banks_work
returns-in-Err-clause-stopped c = λ starts begins.
    let planned = c.args.planned in
    let e = c.args.until in
    let view = ap (λ (p : PlannedBanks). length p.plans) c.planned.view_is in
    let own = length-map c.planned.inside.plans.items arc_value in
    let count = c.planned.invariant.count in
    let several = c.planned.invariant.several in
    let at = (first-at planned.plans e c.args.stands c.at.result.now c.requires.stands (omega arith) c.at.ensures).0 in
    let plans = ap (map arc_value) c.deref.ensures.value ∙ ap (λ (p : PlannedBanks). p.plans) c.planned.view_is in
    let orders = ap (λ (p : PlannedBanks). p.orders) c.planned.view_is in
    let E : List Plan → Orders → ℕ → Type 0 = λ ps o n. c.check_banks_amount.result ≡ unless (banks_amount_refusal ps o n e) tt in
    let e1 = subst (λ ps. E ps c.planned.inside.orders c.at.result.now.epoch) plans c.check_banks_amount.ensures.exact in
    let e2 = subst (λ o. E planned.plans o c.at.result.now.epoch) orders e1 in
    let exact = subst (λ n. E planned.plans planned.orders n) (at ∙ sym begins) e2 in (
      banks-told planned.plans planned.orders (starts_at starts) e c.check_banks_amount.result c.in-Err.refused c.in-Err.is exact,
      refused-amount (banks_amount_refusal planned.plans planned.orders (starts_at starts) e) (BanksWork planned starts e) c.check_banks_amount.result c.in-Err.refused c.in-Err.is exact,
    )

pub open_banks-requires-clause-starts : goal.open_banks-requires-clause-starts
open_banks-requires-clause-starts c =
    let r = c.requires.stands in
    let orders = c.planned.inside.orders in
    let view = ap (λ (p : PlannedBanks). length p.plans) c.planned.view_is in
    let own = length-map c.planned.inside.plans.items arc_value in
    let count = c.planned.invariant.count in
    let several = c.planned.invariant.several in
    let shape = c.planned.invariant.shape in
    let at = (first-at c.args.planned.plans c.args.until c.args.stands c.at.result.now r (omega arith) c.at.ensures).1 in
    let items = ap (map arc_value) c.deref.ensures.value in
    let again = ap (map arc_value) (sym c.deref-3.ensures.value) in
    let plans = ap (λ (p : PlannedBanks). p.plans) c.planned.view_is in
    let R : ℕ → Type 0 = λ n. orders.samples * shape.slots * recorded_epochs orders.every n c.args.until ≤ 4194304 in
    let S : List Plan → Type 0 = λ ps. HaveShape shape.size shape.slots ps in
    let F : List Plan → Type 0 = λ ps. BanksFit r.epoch ps c.args.stands in
    let G : List Stand → Type 0 = λ xs. AreBankStarts (map arc_value c.deref-3.result.now) xs orders c.args.until in
    subst G (sym c.into_vec-stands.ensures) (record {
      size = shape.size;
      slots = shape.slots;
      epoch = r.epoch;
      shape = subst S again shape.shape;
      fit = subst F again (subst F (sym plans) r.fit);
      in_time = r.in_time;
      rows = subst R at (c.in_default.ensures.rows shape.size shape.slots (subst S (sym items) shape.shape));
    })

pub returns-in-Ok-open_banks-clause-accepted : goal.returns-in-Ok-open_banks-clause-accepted
returns-in-Ok-open_banks-clause-accepted c =
    let planned = c.args.planned in
    let e = c.args.until in
    let view = ap (λ (p : PlannedBanks). length p.plans) c.planned.view_is in
    let own = length-map c.planned.inside.plans.items arc_value in
    let count = c.planned.invariant.count in
    let several = c.planned.invariant.several in
    let at = (first-at planned.plans e c.args.stands c.at.result.now c.requires.stands (omega arith) c.at.ensures).0 in
    let plans = ap (map arc_value) c.deref.ensures.value ∙ ap (λ (p : PlannedBanks). p.plans) c.planned.view_is in
    let orders = ap (λ (p : PlannedBanks). p.orders) c.planned.view_is in
    let E : List Plan → Orders → ℕ → Type 0 = λ ps o n. c.check_banks_amount.result ≡ unless (banks_amount_refusal ps o n e) tt in
    let e1 = subst (λ ps. E ps c.planned.inside.orders c.at.result.now.epoch) plans c.check_banks_amount.ensures.exact in
    let e2 = subst (λ o. E planned.plans o c.at.result.now.epoch) orders e1 in
    let exact = subst (λ n. E planned.plans planned.orders n) at e2 in
    amount-none (banks_amount_refusal planned.plans planned.orders (stands_at c.args.stands) e) c.check_banks_amount.result c.in_default.is exact

pub returns-in-Ok-open_banks-clause-ready : goal.returns-in-Ok-open_banks-clause-ready
returns-in-Ok-open_banks-clause-ready c =
    let planned = c.args.planned in
    let name = name_bytes c.args.order.now.save in
    let opened : Opened = record { plans = c.planned.inside.plans; run = c.in-Ok-open_banks.run'; sheets = c.in-Ok.sheets } in
    let plans = ap (λ (p : PlannedBanks). p.plans) c.planned.view_is in
    let B : List Plan → List Stand → Orders → Type 0 = λ ps xs o. c.in-Ok-open_banks.run' ≡ bank_runs ps xs o c.args.until (saves_as None name) in
    let b0 = c.in-Ok-open_banks.ensures ∙ ap (λ k. bank_runs (map arc_value c.deref-3.result.now) c.into_vec-stands.result.items c.planned.inside.orders c.args.until k) c.kind_of-save.ensures in
    let b1 = subst (λ ps. B ps c.into_vec-stands.result.items c.planned.inside.orders) (ap (map arc_value) c.deref-3.ensures.value ∙ plans) b0 in
    let b2 = subst (λ xs. B planned.plans xs c.planned.inside.orders) c.into_vec-stands.ensures b1 in
    let b3 = subst (λ o. B planned.plans c.args.stands o) (ap (λ (p : PlannedBanks). p.orders) c.planned.view_is) b2 in
    opened-ready planned c.args.stands c.args.until name opened c.requires.stands (record { shares = plans; runs = b3 })

pub returns-in-Ok-open_banks-clause-runs : goal.returns-in-Ok-open_banks-clause-runs
returns-in-Ok-open_banks-clause-runs c = λ report saving starts packed.
    let planned = c.args.planned in
    let name = name_bytes c.args.order.now.save in
    let opened : Opened = record { plans = c.planned.inside.plans; run = c.in-Ok-open_banks.run'; sheets = c.in-Ok.sheets } in
    let view = ap (λ (p : PlannedBanks). length p.plans) c.planned.view_is in
    let own = length-map c.planned.inside.plans.items arc_value in
    let count = c.planned.invariant.count in
    let several = c.planned.invariant.several in
    let shape = c.planned.invariant.shape in
    let items = ap (map arc_value) c.deref.ensures.value in
    let plans = ap (λ (p : PlannedBanks). p.plans) c.planned.view_is in
    let S : List Plan → Type 0 = λ ps. HaveShape shape.size shape.slots ps in
    let some = c.in_default.ensures.slots shape.size shape.slots (subst S (sym items) shape.shape) in
    let few = ap (λ (p : PlannedBanks). p.orders.samples) c.planned.view_is in
    let B : List Plan → List Stand → Orders → Type 0 = λ ps xs o. c.in-Ok-open_banks.run' ≡ bank_runs ps xs o c.args.until (saves_as None name) in
    let b0 = c.in-Ok-open_banks.ensures ∙ ap (λ k. bank_runs (map arc_value c.deref-3.result.now) c.into_vec-stands.result.items c.planned.inside.orders c.args.until k) c.kind_of-save.ensures in
    let b1 = subst (λ ps. B ps c.into_vec-stands.result.items c.planned.inside.orders) (ap (map arc_value) c.deref-3.ensures.value ∙ plans) b0 in
    let b2 = subst (λ xs. B planned.plans xs c.planned.inside.orders) c.into_vec-stands.ensures b1 in
    let b3 = subst (λ o. B planned.plans c.args.stands o) (ap (λ (p : PlannedBanks). p.orders) c.planned.view_is) b2 in
    opened-runs report saving planned c.args.stands c.args.until name opened starts (omega arith) (omega arith) (have-slots shape.size shape.slots planned.plans some (subst S plans shape.shape))
    c.requires.stands (record { shares = plans; runs = b3 }) packed
