use Rattle.std.specs.Arc.{arc_value}
use Rattle.std.specs.Vec.Iter.{into_iter_items}
use Rattle.std.proofs.Common.{rules, arith, ◌≡◌, ◌<◌, ◌≤◌, ◌+◌, ◌-◌, ◌*◌, ap, sym, subst, ◌∙◌, length, length-append, map, drop, min, get_or, [], ◌∷◌, ◌++◌, append_assoc}
use Rattle.run_plan.specs.Amounts.{row_count}
use Rattle.run_plan.specs.declared.run_file.Orders.{Orders}
use Rattle.glass_engine.specs.BankRuns.{bank_run, bank_runs, for_samples}
use Rattle.glass_engine.specs.Runs.{AreRunOrders}
use Rattle.glass_engine.proofs.BankLoops.{nothing-left, next-within, next-fits, next-rows, runs-step, runs-end}
use Rattle.glass_engine.proofs.bank_opening.open_each.Goals as goal
use Rattle.glass_engine.proofs.bank_opening.open_each.Goals.{After-len-bank, After-of_samples-own, After-index-plans-bank}

-- the state at hand is behind those whose runs are open, and before the rest
behind : (c : After-len-bank) → c.banks.yielded ++ c.in-Some.stand ∷ into_iter_items c.next.new.self ≡ c.args.stands.items
behind c =
    let steps : into_iter_items c.banks.stand-iterator ≡ c.in-Some.stand ∷ into_iter_items c.next.new.self = c.in-Some.ensures.steps.0 in
    ap (λ xs. c.banks.yielded ++ xs) (sym steps) ∙ c.banks.invariant.steps ∙ c.into_iter-stand-iterator.ensures.into_iter_gives.0

-- there is a plan for it
within : (c : After-len-bank) → length c.banks.yielded < length c.args.plans.now
within c =
    next-within arc_value c.args.plans.now c.args.stands.items c.args.orders.now c.args.until c.requires.starts c.banks.yielded (into_iter_items c.next.new.self) c.in-Some.stand (behind c)

-- as many runs are open as states came before it
number : (c : After-len-bank) → c.len-bank.result ≡ length c.banks.yielded
number c = let long : c.len-bank.result ≡ length c.banks.runs.items = search rules in long ∙ c.banks.invariant.count

-- its orders
own : (c : After-of_samples-own) → c.of_samples-own.result ≡ for_samples (min (c.args.orders.now.samples - 64 * length c.banks.yielded) 64) c.args.orders.now
own c =
    c.of_samples-own.ensures ∙ ap (λ k. for_samples k c.args.orders.now)
    (c.min.ensures ∙ ap (λ k. min (c.args.orders.now.samples - 64 * k) 64) (number (goal.at.After-of_samples-own c).After-len-bank))

-- its plan
plan : (c : After-index-plans-bank) → c.index-plans-bank.result ≡ get_or c.args.plans.now (length c.banks.yielded) c.index-plans-bank.result
plan c =
    let p = c.index-plans-bank.result in
    subst (λ k. p ≡ get_or c.args.plans.now k p) (number (goal.at.After-index-plans-bank c).After-len-bank) c.index-plans-bank.is

pub overflow_cast-left : goal.overflow_cast-left
overflow_cast-left c =
    let at = (goal.at.overflow_cast-left c).After-len-bank in
    omega (arith, within at, number at, c.requires.orders.few_banks)

pub overflow_mul-left : goal.overflow_mul-left
overflow_mul-left c =
    let at = (goal.at.overflow_mul-left c).After-len-bank in
    omega (arith, within at, number at, c.requires.orders.few_banks)

pub overflow_sub-left : goal.overflow_sub-left
overflow_sub-left c =
    let at = (goal.at.overflow_sub-left c).After-len-bank in
    omega (arith, within at, number at, c.requires.orders.some_samples)

pub bounds-plans-bank : goal.bounds-plans-bank
bounds-plans-bank c =
    let at = (goal.at.bounds-plans-bank c).After-len-bank in
    omega (arith, within at, number at)

pub open_level-requires-clause-orders : goal.open_level-requires-clause-orders
open_level-requires-clause-orders c =
    let at = goal.at.open_level-requires-clause-orders c in
    let printed = min (c.args.orders.now.samples - 64 * length c.banks.yielded) 64 in
    let some : 1 ≤ printed = omega (arith, within at.After-len-bank, c.requires.orders.some_samples) in
    let few : printed ≤ 64 = omega arith in
    let O : Orders → Type 0 = λ o. AreRunOrders o in
    subst O (sym (own at.After-of_samples-own)) (record { some_samples = some; few_samples = few; some_every = c.requires.orders.some_every; every = c.requires.orders.every })

pub open_level-requires-clause-stand : goal.open_level-requires-clause-stand
open_level-requires-clause-stand c =
    let at = goal.at.open_level-requires-clause-stand c in
    (next-fits arc_value c.args.plans.now c.args.stands.items c.args.orders.now c.args.until c.requires.starts c.banks.yielded (into_iter_items c.next.new.self) c.in-Some.stand (behind at.After-len-bank) c.index-plans-bank.result (plan at.After-index-plans-bank)).0

pub open_level-requires-clause-window : goal.open_level-requires-clause-window
open_level-requires-clause-window c =
    let at = goal.at.open_level-requires-clause-window c in
    let fits = next-fits arc_value c.args.plans.now c.args.stands.items c.args.orders.now c.args.until c.requires.starts c.banks.yielded (into_iter_items c.next.new.self) c.in-Some.stand (behind at.After-len-bank) c.index-plans-bank.result (plan at.After-index-plans-bank) in
    omega (arith, fits.1, c.requires.starts.in_time)

pub open_level-requires-clause-rows : goal.open_level-requires-clause-rows
open_level-requires-clause-rows c =
    let at = goal.at.open_level-requires-clause-rows c in
    let R : Orders → Type 0 = λ o. row_count (arc_value c.index-plans-bank.result) o c.in-Some.stand.epoch c.args.until ≤ 4194304 in
    let less : min (c.args.orders.now.samples - 64 * length c.banks.yielded) 64 ≤ c.args.orders.now.samples = omega arith in
    subst R (sym (own at.After-of_samples-own))
    (next-rows arc_value c.args.plans.now c.args.stands.items c.args.orders.now c.args.until c.requires.starts c.banks.yielded (into_iter_items c.next.new.self) c.in-Some.stand (behind at.After-len-bank) c.index-plans-bank.result (plan at.After-index-plans-bank) _ less)

pub banks-preserved : goal.banks-preserved
banks-preserved c =
    let at = goal.at.banks-preserved c in
    let yielded = c.banks.yielded in
    let x = c.in-Some.stand in
    let rest = into_iter_items c.next.new.self in
    let p = c.index-plans-bank.result in
    let orders = c.args.orders.now in
    let plans = map arc_value c.args.plans.now in
    let steps : into_iter_items c.banks.stand-iterator ≡ x ∷ rest = c.in-Some.ensures.steps.0 in
    let run : c.in_ok-open_level.field-0 ≡ bank_run (arc_value p) x (for_samples (min (orders.samples - 64 * length yielded) 64) orders) c.args.until c.args.save =
    c.in_ok-open_level.ensures ∙ ap (λ (o : Orders). bank_run (arc_value p) x o c.args.until c.args.save) (own at.After-of_samples-own) in
    let so_far = ap (λ xs. c.banks.runs.items ++ bank_runs (drop (length yielded) plans) xs (for_samples (orders.samples - 64 * length yielded) orders) c.args.until c.args.save) (sym steps) ∙ c.banks.invariant.runs in
    let pushed = c.in_ok-push.ensures.items in
    let later = bank_runs (drop (length (yielded ++ x ∷ [])) plans) rest (for_samples (orders.samples - 64 * length (yielded ++ x ∷ [])) orders) c.args.until c.args.save in
    record {
      steps = append_assoc yielded (x ∷ []) rest ∙ ap (λ xs. yielded ++ xs) (sym steps) ∙ c.banks.invariant.steps;
      left = let short = ap length steps in let was = c.banks.invariant.left in let gone = c.in-Some.ensures.steps.1 in omega arith;
      count = ap length pushed ∙ length-append c.banks.runs.items _ ∙ ap (λ k. k + 1) c.banks.invariant.count ∙ sym (length-append yielded (x ∷ []));
      runs = ap (λ rs. rs ++ later) pushed
          ∙ runs-step arc_value c.args.plans.now c.args.stands.items orders c.args.until c.requires.starts yielded rest x (behind at.After-len-bank) p (plan at.After-index-plans-bank) c.args.save c.banks.runs.items _ c.in_ok-open_level.field-0 run so_far;
    }

pub returns : goal.returns
returns c =
    let at = c.banks in
    let none = c.in-None.ensures.steps in
    let empty : into_iter_items at.stand-iterator ≡ [] = nothing-left _ (sym at.invariant.left ∙ none.0) in
    runs-end (drop (length at.yielded) (map arc_value c.args.plans.now)) (into_iter_items at.stand-iterator) (for_samples (c.args.orders.now.samples - 64 * length at.yielded) c.args.orders.now) c.args.until c.args.save at.runs.items _ empty at.invariant.runs
    ∙ ap (λ xs. bank_runs (map arc_value c.args.plans.now) xs c.args.orders.now c.args.until c.args.save) c.into_iter-stand-iterator.ensures.into_iter_gives.0
