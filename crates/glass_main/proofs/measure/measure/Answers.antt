use Rattle.std.proofs.Common.{◌≡◌, ℕ, ◌≤◌, List, Some, Ok, Err, option_map, sym, ap, ◌∙◌, subst}
use Rattle.std.specs.Prelude.{unwrap_or}
use Rattle.measured_run.specs.Runs.{RunView}
use Rattle.run_checkpoint.specs.BankEncoding.{BanksStand}
use Rattle.scalar_rule.specs.declared.sample.Sample.{Sample}
use Rattle.command_words.specs.CommandLine.{Measure}
use Rattle.command_words.specs.ReadCommand.{read_measure_order}
use Rattle.glass_main.specs.KeptMeasure.{run_of}
use Rattle.glass_main.specs.ManyBanks.{PlannedBanks}
use Rattle.glass_main.specs.Outside.{Output, Store, output, store}
use Rattle.glass_main.specs.Request.{MeasureWork, level_beginning_at, measured_until}
use Rattle.glass_main.specs.Resumes.{Begins}
use Rattle.glass_main.specs.Statuses.{Ends, Wrote}
use Rattle.glass_main.proofs.MeasureEndings.{same-banked, has-begun, ends-unbegun, ends-finished}
use Rattle.glass_main.proofs.measure.measure.Goals as goal

pub returns-in-Err-gather_level-clause-ends : goal.returns-in-Err-gather_level-clause-ends
returns-in-Err-gather_level-clause-ends g c =
    let order = read_measure_order c.args.order.now in
    let planned = c.in-Ok.planned in
    let held : Store = store g.H.Shelf c.args.shelf.now in
    let mid : Store = store g.H.Shelf c.gather_banked.new.shelf in
    let holds : Store = store g.H.Shelf c.gather_level.new.shelf in
    let before : Output = output g.O.Sink c.args.out.now in
    let ending = c.in-Err-gather_level.ending in
    let banked = same-banked order planned held mid c.in-Ok.ensures.asked in
    let until = c.until_of-until.ensures.value ∙ ap (λ (p : PlannedBanks). unwrap_or order.until p.orders.epochs) c.planned.view_is in
    let B : ℕ → Type 0 = λ e. Begins order.from (BanksStand planned.plans) (option_map (level_beginning_at order.from planned e) mid.holds) (Err ending) mid holds in
    let E : Store → Type 0 = λ s. Ends (Some (Measure order)) ending s holds before before in
    subst E banked.0
    (ends-unbegun order planned (BanksStand planned.plans) ending mid holds before banked.1 (subst B until c.in-Err-gather_level.ensures.asked) c.in-Err-gather_level.ensures.level)

pub returns-clause-ends : goal.returns-clause-ends
returns-clause-ends g c =
    let order = read_measure_order c.args.order.now in
    let planned = c.in-Ok.planned in
    let stands = c.in-Ok-gather_level.stands in
    let held : Store = store g.H.Shelf c.args.shelf.now in
    let mid : Store = store g.H.Shelf c.gather_banked.new.shelf in
    let read : Store = store g.H.Shelf c.gather_level.new.shelf in
    let holds : Store = store g.H.Shelf c.finish.new.shelf in
    let before : Output = output g.O.Sink c.args.out.now in
    let now : Output = output g.O.Sink c.finish.new.out in
    let ending = c.finish.result in
    let banked = same-banked order planned held mid c.in-Ok.ensures.asked in
    let until = c.until_of-until.ensures.value ∙ ap (λ (p : PlannedBanks). unwrap_or order.until p.orders.epochs) c.planned.view_is in
    let B : ℕ → Type 0 = λ e. Begins order.from (BanksStand planned.plans) (option_map (level_beginning_at order.from planned e) mid.holds) (Ok stands) mid read in
    let begun = has-begun order planned (BanksStand planned.plans) stands mid read banked.1 (subst B until c.in-Ok-gather_level.ensures.asked) in
    let V : PlannedBanks → RunView → Type 0 = λ p r. (starts : List (ℕ → Sample)) → BanksStand p.plans starts r.bases
    → Wrote order.save (Some (Ok (MeasureWork p starts r.until))) ending read holds before now in
    let M : ℕ → Type 0 = λ e. (starts : List (ℕ → Sample)) → BanksStand planned.plans starts stands
    → Wrote order.save (Some (Ok (MeasureWork planned starts e))) ending read holds before now in
    let own = subst (λ r. V planned r) c.in-Ok-open_run.ensures.run (subst (λ p. V p c.in-Ok-open_run.measured.run) c.in-Ok-open_run.ensures.planned c.finish.ensures.wrote) in
    let E : Store → Type 0 = λ s. Ends (Some (Measure order)) ending s holds before now in
    subst E banked.0
    (ends-finished order planned (BanksStand planned.plans) stands ending mid read holds before now begun c.finish.ensures.ending c.finish.ensures.out c.finish.ensures.files (subst M until own)
    c.finish.ensures.later_store c.finish.ensures.later)
