use Rattle.std.proofs.Common.{◌≡◌, ℕ, None, Some, Ok, Err, option_map, subst, refl}
use Rattle.plane_sweep.specs.Uneven.{positions_of}
use Rattle.run_plan.specs.Amounts.{amount_refusal}
use Rattle.scalar_rule.specs.Positions.{floor_of}
use Rattle.glass_main.proofs.OneBank.{base-accepted}
use Rattle.glass_main.proofs.OpenedRuns.{own-ready, own-work}
use Rattle.glass_main.proofs.ReadBytes.{begins-undone}
use Rattle.glass_main.proofs.RunEndings.{has-begun, ends-unbegun, ends-unopened, ends-finished}
use Rattle.glass_main.proofs.StoppedRuns.{base-floor}
use Rattle.glass_main.specs.Beginnings.{Beginning, Uneven, IsBaseOf}
use Rattle.glass_main.specs.Opened.{IsUnopened}
use Rattle.glass_main.specs.Outside.{output, store}
use Rattle.command_words.specs.ReadCommand.{read_run_order}
use Rattle.glass_main.specs.Request.{RunWork, beginning_at, run_work, until_of}
use Rattle.glass_main.specs.Resumes.{Begins}
use Rattle.glass_main.specs.Statuses.{Wrote}
use Rattle.glass_main.specs.declared.plans.Plans.TheVariants.{One}
use Rattle.glass_main.proofs.run.run_one.Goals as goal

-- the type of the equation of the epochs is given in each answer, since its right side would be found written out
pub returns-in-Err-clause-ends : goal.returns-in-Err-clause-ends
returns-in-Err-clause-ends g c =
    let order = read_run_order c.args.asked.order in
    let planned = c.args.asked.planned in
    let e = until_of order planned.orders in
    let same : c.until_of-until.result ≡ e = c.until_of-until.ensures.value in
    let B : ℕ → Type 0 = λ e. Begins order.from (IsBaseOf planned.plan) (option_map (beginning_at order.from planned e) (g.H.Shelf.holds c.args.shelf.now)) (Err c.in-Err.ending) (store g.H.Shelf c.args.shelf.now) (store g.H.Shelf c.gather_base.new.shelf) in
    ends-unbegun order (One planned) (beginning_at order.from planned e) (run_work order.stop_after planned e) (λ files. refl) (IsBaseOf planned.plan) c.in-Err.ending _ _ _
    c.requires.planned (subst B same c.in-Err.ensures.asked)

pub returns-in-Err-open_run-clause-ends : goal.returns-in-Err-open_run-clause-ends
returns-in-Err-open_run-clause-ends g c =
    let order = read_run_order c.args.asked.order in
    let planned = c.args.asked.planned in
    let base = c.in-Ok.base in
    let e = until_of order planned.orders in
    let same : c.until_of-until.result ≡ e = c.until_of-until.ensures.value in
    let B : ℕ → Type 0 = λ e. Begins order.from (IsBaseOf planned.plan) (option_map (beginning_at order.from planned e) (g.H.Shelf.holds c.args.shelf.now)) (Ok base) (store g.H.Shelf c.args.shelf.now) (store g.H.Shelf c.gather_base.new.shelf) in
    let begun = has-begun order (One planned) (beginning_at order.from planned e) (run_work order.stop_after planned e) (λ files. refl) (IsBaseOf planned.plan) base _ _ c.requires.planned (subst B same c.in-Ok.ensures.asked) in
    let U : Beginning → ℕ → Type 0 = λ from n. IsUnopened (run_work order.stop_after planned n from) c.in-Err-open_run.ending in
    ends-unopened order (One planned) (beginning_at order.from planned e) (run_work order.stop_after planned e) (λ files. refl) (IsBaseOf planned.plan) base (Uneven base) c.in-Err-open_run.ending _ _ _ begun
    (subst (U (Uneven base)) same (c.in-Err-open_run.ensures.stopped (Uneven base) refl))
    (λ from b. subst (U from) same (c.in-Err-open_run.ensures.stopped from (base-floor planned.plan from base c.in-Ok.ensures.resumable.some b)))

pub returns-clause-ends : goal.returns-clause-ends
returns-clause-ends g c =
    let order = read_run_order c.args.asked.order in
    let planned = c.args.asked.planned in
    let base = c.in-Ok.base in
    let until = c.until_of-until.result in
    let e = until_of order planned.orders in
    let same : c.until_of-until.result ≡ e = c.until_of-until.ensures.value in
    let B : ℕ → Type 0 = λ e. Begins order.from (IsBaseOf planned.plan) (option_map (beginning_at order.from planned e) (g.H.Shelf.holds c.args.shelf.now)) (Ok base) (store g.H.Shelf c.args.shelf.now) (store g.H.Shelf c.gather_base.new.shelf) in
    let begun = has-begun order (One planned) (beginning_at order.from planned e) (run_work order.stop_after planned e) (λ files. refl) (IsBaseOf planned.plan) base _ _ c.requires.planned (subst B same c.in-Ok.ensures.asked) in
    let A : ℕ → Type 0 = λ e. amount_refusal planned.plan planned.orders (floor_of (positions_of base)) e ≡ None in
    let W : ℕ → Type 0 = λ e. (from : Beginning) → IsBaseOf planned.plan from base
    → Wrote order.save (Some (Ok (RunWork planned from e order.stop_after))) c.finish.result (store g.H.Shelf c.gather_base.new.shelf) (store g.H.Shelf c.finish.new.shelf)
    (output g.O.Sink c.args.out.now) (output g.O.Sink c.finish.new.out) in
    let wrote : W until = λ from b. c.finish.ensures.wrote (RunWork planned from until order.stop_after)
    (own-work c.unstopped_run_is_whole.ensures c.level_report_is_serial.ensures c.whole_checkpoint_is_the_rules.ensures c.level_checkpoint_is_serial.ensures planned base until order.stop_after order.save c.in-Ok-open_run.opened from c.in-Ok-open_run.ensures.opened b) in
    let none : A e = subst A same c.in-Ok-open_run.ensures.accepted in
    ends-finished order (One planned) (beginning_at order.from planned e) (run_work order.stop_after planned e) (λ files. refl) (IsBaseOf planned.plan) base (λ from. RunWork planned from e order.stop_after)
    (λ from b. base-accepted order.stop_after planned base e from c.in-Ok.ensures.resumable.some b none) c.finish.result _ _ _ _ _ begun c.finish.ensures.ending
    c.finish.ensures.out c.finish.ensures.files (subst W same wrote) c.finish.ensures.later_store c.finish.ensures.later

pub returns-in-Err-clause-bytes : goal.returns-in-Err-clause-bytes
returns-in-Err-clause-bytes g c = begins-undone _ _ _ _ _ _ _ c.in-Err.ensures.asked

pub finish-requires-clause-ready : goal.finish-requires-clause-ready
finish-requires-clause-ready g c κs within =
    let order = read_run_order c.args.asked.order in
    own-ready c.args.asked.planned c.in-Ok.base c.until_of-until.result order.stop_after order.save c.in-Ok-open_run.opened c.in-Ok-open_run.ensures.opened
