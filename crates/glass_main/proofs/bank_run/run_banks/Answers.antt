use Rattle.std.proofs.Common.{◌≡◌, ℕ, List, None, Some, Ok, Err, option_map, subst, refl, sym, ap, ◌∙◌}
use Rattle.run_checkpoint.specs.BankEncoding.{BanksStand, banks_parts}
use Rattle.scalar_rule.specs.declared.sample.Sample.{Sample}
use Rattle.glass_main.proofs.BankRuns.{stand-epoch, banks-accepted}
use Rattle.glass_main.proofs.BankStands.{parts-stand}
use Rattle.glass_main.proofs.ReadBytes.{begins-undone}
use Rattle.glass_main.proofs.RunEndings.{has-begun, ends-unbegun, ends-unopened, ends-finished}
use Rattle.glass_main.specs.KeptPlans.{banks_view}
use Rattle.glass_main.specs.ManyBanks.{PlannedBanks, banks_amount_refusal, starts_at, stands_at}
use Rattle.glass_main.specs.Opened.{IsUnopened}
use Rattle.glass_main.specs.Outside.{output, store}
use Rattle.command_words.specs.ReadCommand.{read_run_order}
use Rattle.glass_main.specs.Request.{BanksWork, banks_beginning_at, banks_work, until_of}
use Rattle.glass_main.specs.Resumes.{Begins}
use Rattle.command_words.specs.RunWords.{RunOrder}
use Rattle.glass_main.specs.Statuses.{Wrote}
use Rattle.glass_main.specs.declared.plans.Plans.TheVariants.{Banks}
use Rattle.glass_main.proofs.bank_run.run_banks.Goals as goal

-- the epoch at which a run ends, by the orders of its plans; all values are given, since the order would be found written out
until-by : (order : RunOrder) (kept planned : PlannedBanks) (until : ℕ) → until ≡ until_of order kept.orders → kept ≡ planned → until ≡ until_of order planned.orders
until-by order kept planned until told is = told ∙ ap (λ (p : PlannedBanks). until_of order p.orders) is

pub returns-in-Err-clause-ends : goal.returns-in-Err-clause-ends
returns-in-Err-clause-ends g c =
    let order = read_run_order c.args.asked.order in
    let planned = c.args.asked.planned in
    let e = until_of order planned.orders in
    let same : c.until_of-until.result ≡ e = until-by order (banks_view c.planned.inside) planned c.until_of-until.result c.until_of-until.ensures.value c.planned.view_is in
    let B : ℕ → Type 0 = λ e. Begins order.from (BanksStand planned.plans) (option_map (banks_beginning_at order.from planned e) (g.H.Shelf.holds c.args.shelf.now)) (Err c.in-Err.ending) (store g.H.Shelf c.args.shelf.now) (store g.H.Shelf c.gather_stands.new.shelf) in
    ends-unbegun order (Banks planned) (banks_beginning_at order.from planned e) (banks_work planned e) (λ files. refl) (BanksStand planned.plans) c.in-Err.ending _ _ _
    c.requires.planned (subst B same c.in-Err.ensures.asked)

pub returns-in-Err-open_run-clause-ends : goal.returns-in-Err-open_run-clause-ends
returns-in-Err-open_run-clause-ends g c =
    let order = read_run_order c.args.asked.order in
    let planned = c.args.asked.planned in
    let stands = c.in-Ok.stands in
    let e = until_of order planned.orders in
    let same : c.until_of-until.result ≡ e = until-by order (banks_view c.planned.inside) planned c.until_of-until.result c.until_of-until.ensures.value c.planned.view_is in
    let r = c.in-Ok.ensures.resumable in
    let B : ℕ → Type 0 = λ e. Begins order.from (BanksStand planned.plans) (option_map (banks_beginning_at order.from planned e) (g.H.Shelf.holds c.args.shelf.now)) (Ok stands) (store g.H.Shelf c.args.shelf.now) (store g.H.Shelf c.gather_stands.new.shelf) in
    let begun = has-begun order (Banks planned) (banks_beginning_at order.from planned e) (banks_work planned e) (λ files. refl) (BanksStand planned.plans) stands _ _ c.requires.planned (subst B same c.in-Ok.ensures.asked) in
    let U : List (ℕ → Sample) → ℕ → Type 0 = λ starts n. IsUnopened (banks_work planned n starts) c.in-Err-open_run.ending in
    let parts = banks_parts planned.plans stands in
    ends-unopened order (Banks planned) (banks_beginning_at order.from planned e) (banks_work planned e) (λ files. refl) (BanksStand planned.plans) stands parts c.in-Err-open_run.ending _ _ _ begun
    (subst (U parts) same (c.in-Err-open_run.ensures.stopped parts (stand-epoch planned.plans parts stands (parts-stand r.epoch planned.plans stands r.fit))))
    (λ starts b. subst (U starts) same (c.in-Err-open_run.ensures.stopped starts (stand-epoch planned.plans starts stands b)))

pub returns-clause-ends : goal.returns-clause-ends
returns-clause-ends g c =
    let order = read_run_order c.args.asked.order in
    let planned = c.args.asked.planned in
    let stands = c.in-Ok.stands in
    let until = c.until_of-until.result in
    let e = until_of order planned.orders in
    let same : c.until_of-until.result ≡ e = until-by order (banks_view c.planned.inside) planned c.until_of-until.result c.until_of-until.ensures.value c.planned.view_is in
    let opened = c.in-Ok-open_run.opened in
    let B : ℕ → Type 0 = λ e. Begins order.from (BanksStand planned.plans) (option_map (banks_beginning_at order.from planned e) (g.H.Shelf.holds c.args.shelf.now)) (Ok stands) (store g.H.Shelf c.args.shelf.now) (store g.H.Shelf c.gather_stands.new.shelf) in
    let begun = has-begun order (Banks planned) (banks_beginning_at order.from planned e) (banks_work planned e) (λ files. refl) (BanksStand planned.plans) stands _ _ c.requires.planned (subst B same c.in-Ok.ensures.asked) in
    let W : ℕ → Type 0 = λ e. (starts : List (ℕ → Sample)) → BanksStand planned.plans starts stands
    → Wrote order.save (Some (Ok (BanksWork planned starts e))) c.finish.result (store g.H.Shelf c.gather_stands.new.shelf) (store g.H.Shelf c.finish.new.shelf)
    (output g.O.Sink c.args.out.now) (output g.O.Sink c.finish.new.out) in
    let wrote : W until = λ starts b. c.finish.ensures.wrote (BanksWork planned starts until)
    (c.in-Ok-open_run.ensures.runs c.banks_report_is_serial.ensures c.banks_checkpoint_is_serial.ensures starts b) in
    let none : (starts : List (ℕ → Sample)) → BanksStand planned.plans starts stands → banks_amount_refusal planned.plans planned.orders (starts_at starts) e ≡ None =
    λ starts b. ap (λ k. banks_amount_refusal planned.plans planned.orders k e) (stand-epoch planned.plans starts stands b)
    ∙ ap (banks_amount_refusal planned.plans planned.orders (stands_at stands)) (sym same) ∙ c.in-Ok-open_run.ensures.accepted in
    ends-finished order (Banks planned) (banks_beginning_at order.from planned e) (banks_work planned e) (λ files. refl) (BanksStand planned.plans) stands (λ starts. BanksWork planned starts e)
    (λ starts b. banks-accepted planned e starts (none starts b)) c.finish.result _ _ _ _ _ begun c.finish.ensures.ending
    c.finish.ensures.out c.finish.ensures.files (subst W same wrote) c.finish.ensures.later_store c.finish.ensures.later

pub returns-in-Err-clause-bytes : goal.returns-in-Err-clause-bytes
returns-in-Err-clause-bytes g c = begins-undone _ _ _ _ _ _ _ c.in-Err.ensures.asked
