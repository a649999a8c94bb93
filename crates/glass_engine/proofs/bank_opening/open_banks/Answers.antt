use Rattle.std.specs.Arc.{arc_value}
use Rattle.std.specs.Prelude.{All}
use Rattle.std.proofs.Common.{arith, ◌≡◌, ◌<◌, ap, sym, subst, ◌∙◌, length, map, List, drop}
use Rattle.std.proofs.lemmas.List.{length-map}
use Rattle.run_checkpoint.proofs.BankSteps.{next-item}
use Rattle.scalar_rule.specs.Plan.{Plan, slots_of}
use Rattle.glass_engine.specs.BankRuns.{AreBankOrders, plans_of}
use Rattle.glass_engine.specs.KeptRun.{AreBankRuns}
use Rattle.glass_engine.specs.KeptSaving.{banks_need, HasRoom}
use Rattle.glass_engine.specs.Runs.{RunView}
use Rattle.glass_engine.proofs.BankStarts.{shape-first, runs-long, runs-plans, runs-keep, runs-saves, several-are, several-keep}
use Rattle.glass_engine.proofs.bank_opening.open_banks.Goals as goal

pub invariant_of-result : goal.invariant_of-result
invariant_of-result c =
    let plans = c.args.plans.now in
    let all = map arc_value plans in
    let orders = c.args.orders.now in
    let kind = c.args.save in
    let starts = c.requires.starts in
    let count : length plans ≡ length all = sym (length-map plans arc_value) in
    let some_plans : 0 < length plans = omega (arith, c.requires.orders.some_banks) in
    let cut = next-item arc_value plans 0 c.index-plans-0.result some_plans c.index-plans-0.is in
    let slots = (shape-first starts.size starts.slots all (drop 1 all) (arc_value c.index-plans-0.result) cut starts.shape).1 in
    let lawful = c.slots.ensures.lawful in
    let same = ap (λ (p : Plan). slots_of p) c.deref.ensures in
    let some : 0 < starts.slots = omega (arith, lawful.rules.some, slots, same) in
    let is = c.in_ok-banks.ensures in
    let A : List RunView → Type 0 = λ rs. AreBankRuns orders rs in
    let long = ap length is ∙ runs-long starts.epoch all c.args.stands.items orders c.args.until kind starts.fit in
    let keeps = subst A (sym is) (runs-keep all c.args.stands.items orders c.args.until kind starts (subst (λ n. AreBankOrders n orders) count c.requires.orders) some c.requires.until) in
    record {
      runs = several-are orders c.in_ok-banks.banks.items keeps;
      saving = several-keep c.args.save c.in_ok-banks.banks.items c.in_ok-saving.saving keeps.orders_are.some_banks (λ k run h. (keeps.each k run h).takes)
          (subst (All (λ (run : RunView). run.saves ≡ kind)) (sym is) (runs-saves all c.args.stands.items orders c.args.until kind)) c.requires.level c.in_ok-saving.ensures.kind
          (subst (λ ps. HasRoom (banks_need ps) c.in_ok-saving.saving) (sym (ap plans_of is ∙ runs-plans starts.epoch all c.args.stands.items orders c.args.until kind starts.fit)) c.in_ok-saving.ensures.room);
      driven = c.in_ok-driven.ensures.items;
      room = omega (arith, long, count, c.in_ok-driven.ensures.capacity);
    }
