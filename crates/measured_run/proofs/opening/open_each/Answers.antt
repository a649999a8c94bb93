use Rattle.std.specs.Arc.{arc_value}
use Rattle.std.specs.Prelude.{All}
use Rattle.std.specs.Vec.Iter.{into_iter_items}
use Rattle.std.proofs.Common.{◌≡◌, ◌<◌, List, [], ◌∷◌, ◌++◌, length, get_or, append_assoc, append-nil, ap, ap₂, sym, subst, ◌∙◌, arith, rules}
use Rattle.std.proofs.lemmas.List.{length-map, map-append}
use Rattle.std.proofs.lemmas.List.Elements.{All-push}
use Rattle.plane_sweep.specs.declared.stand.Stand.{Stand}
use Rattle.measured_run.specs.Banks.{BankView, bases_in}
use Rattle.measured_run.specs.KeptRuns.{IsOnCourse}
use Rattle.measured_run.proofs.Openings.{nothing-left, next-fits, next-within, plans-next, plans-all}
use Rattle.measured_run.proofs.opening.open_each.Goals as goal
use Rattle.measured_run.proofs.opening.open_each.Goals.{After-len-bank, After-index-plans-bank}

-- the state at hand is behind those whose banks are open, and before the rest
behind : (c : After-len-bank) → c.banks.yielded ++ c.in-Some.base ∷ into_iter_items c.next.new.self ≡ c.args.bases.items
behind c =
    let steps : into_iter_items c.banks.base-iterator ≡ c.in-Some.base ∷ into_iter_items c.next.new.self = c.in-Some.ensures.steps.0 in
    ap (λ xs. c.banks.yielded ++ xs) (sym steps) ∙ c.banks.invariant.steps ∙ c.into_iter-base-iterator.ensures.into_iter_gives.0

opened : (c : After-len-bank) → length c.banks.banks.items ≡ length c.banks.yielded
opened c = sym (length-map c.banks.banks.items (λ (b : BankView). b.base)) ∙ ap length c.banks.invariant.bases

-- as many are open as states came before it
number : (c : After-len-bank) → c.len-bank.result ≡ length c.banks.yielded
number c = let long : c.len-bank.result ≡ length c.banks.banks.items = search rules in long ∙ opened c

within : (c : After-len-bank) → length c.banks.yielded < length c.args.plans.now
within c = next-within arc_value c.args.plans.now c.args.course.from c.args.bases.items c.banks.yielded (into_iter_items c.next.new.self) c.in-Some.base c.requires.fit (behind c)

plan : (c : After-index-plans-bank) → c.index-plans-bank.result ≡ get_or c.args.plans.now (length c.banks.yielded) c.index-plans-bank.result
plan c =
    let p = c.index-plans-bank.result in
    subst (λ k. p ≡ get_or c.args.plans.now k p) (number (goal.at.After-index-plans-bank c).After-len-bank) c.index-plans-bank.is

pub bounds-plans-bank : goal.bounds-plans-bank
bounds-plans-bank c =
    let at = (goal.at.bounds-plans-bank c).After-len-bank in
    omega (arith, number at, within at)

pub open_bank-requires-clause-base : goal.open_bank-requires-clause-base
open_bank-requires-clause-base c =
    let at = goal.at.open_bank-requires-clause-base c in
    (next-fits arc_value c.args.plans.now c.args.course.from c.args.bases.items c.banks.yielded (into_iter_items c.next.new.self) c.in-Some.base c.index-plans-bank.result c.requires.fit
    (behind at.After-len-bank) (plan at.After-index-plans-bank)).1

pub open_bank-requires-clause-reach : goal.open_bank-requires-clause-reach
open_bank-requires-clause-reach c =
    let at = goal.at.open_bank-requires-clause-reach c in
    let fits = next-fits arc_value c.args.plans.now c.args.course.from c.args.bases.items c.banks.yielded (into_iter_items c.next.new.self) c.in-Some.base c.index-plans-bank.result c.requires.fit
    (behind at.After-len-bank) (plan at.After-index-plans-bank) in
    omega (arith, fits.2, c.requires.window)

pub banks-preserved : goal.banks-preserved
banks-preserved c =
    let at = goal.at.banks-preserved c in
    let yielded = c.banks.yielded in
    let x = c.in-Some.base in
    let rest = into_iter_items c.next.new.self in
    let banks = c.banks.banks.items in
    let bank = c.in_ok-open_bank.field-0 in
    let p = c.index-plans-bank.result in
    let steps : into_iter_items c.banks.base-iterator ≡ x ∷ rest = c.in-Some.ensures.steps.0 in
    let made = c.in_ok-open_bank.ensures in
    let pushed = c.in_ok-push.ensures.items in
    let fits = next-fits arc_value c.args.plans.now c.args.course.from c.args.bases.items yielded rest x p c.requires.fit (behind at.After-len-bank) (plan at.After-index-plans-bank) in
    let base : bank.base ≡ x = ap (λ (b : BankView). b.base) made in
    let count = opened at.After-len-bank in
    record {
      steps = append_assoc yielded (x ∷ []) rest ∙ ap (λ xs. yielded ++ xs) (sym steps) ∙ c.banks.invariant.steps;
      left = let short = ap length steps in let was = c.banks.invariant.left in let gone = c.in-Some.ensures.steps.1 in omega arith;
      bases = ap bases_in pushed ∙ map-append (λ (b : BankView). b.base) banks (bank ∷ []) ∙ ap₂ (λ (bs : List Stand) (b : Stand). bs ++ b ∷ []) c.banks.invariant.bases base;
      plans = plans-next arc_value c.args.plans.now banks c.push.new.self.items bank p (omega (arith, count, fits.0))
          (subst (λ k. p ≡ get_or c.args.plans.now k p) (sym count) (plan at.After-index-plans-bank)) (ap (λ (b : BankView). b.plan) made) pushed c.banks.invariant.plans;
      course = subst (All (IsOnCourse c.args.course)) (sym pushed) (All-push (IsOnCourse c.args.course) banks bank c.banks.invariant.course
          (record { from = ap (λ (b : Stand). b.epoch) base ∙ fits.2; every = ap (λ (b : BankView). b.every) made; until = ap (λ (b : BankView). b.until) made }));
    }

pub returns-clause-plans : goal.returns-clause-plans
returns-clause-plans c =
    let at = c.banks in
    let none = c.in-None.ensures.steps in
    let empty : into_iter_items at.base-iterator ≡ [] = nothing-left (into_iter_items at.base-iterator) (sym at.invariant.left ∙ none.0) in
    let all : at.yielded ≡ c.args.bases.items =
    sym (append-nil at.yielded) ∙ ap (λ xs. at.yielded ++ xs) (sym empty) ∙ at.invariant.steps ∙ c.into_iter-base-iterator.ensures.into_iter_gives.0 in
    plans-all arc_value c.args.plans.now c.args.course.from c.args.bases.items at.banks.items c.requires.fit (at.invariant.bases ∙ all) at.invariant.plans
