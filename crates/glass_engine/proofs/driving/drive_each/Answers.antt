use Rattle.std.specs.Arc.{arc_value}
use Rattle.std.specs.Prelude.{All, vec_len}
use Rattle.std.specs.Vec.Iter.{into_iter_items}
use Rattle.std.proofs.Common.{rules, arith, ◌≡◌, ap, ap₂, sym, subst, ◌∙◌, List, length, length-append, get_or, [], ◌∷◌, ◌++◌, append_assoc, append-nil}
use Rattle.std.proofs.lemmas.List.{length-map}
use Rattle.std.proofs.lemmas.List.Elements.{All-push}
use Rattle.glass_engine.specs.BankRuns.{runs_of}
use Rattle.glass_engine.specs.Runs.{RunView, DoneView, IsEnd}
use Rattle.glass_engine.proofs.BankLoops.{nothing-left}
use Rattle.glass_engine.proofs.BankDrives.{plan-within, plan-at, runs-push}
use Rattle.glass_engine.proofs.driving.drive_each.Goals as goal
use Rattle.glass_engine.proofs.driving.drive_each.Goals.{After-len-bank}

-- ---- of lists that are given by name, since they would be found with the values of all calls written out

-- the runs that were driven, the one at hand and the rest are all runs
next-steps : (yielded before rest first all : List RunView) (x : RunView) → before ≡ x ∷ rest → yielded ++ before ≡ first → first ≡ all
    → yielded ++ x ∷ rest ≡ all
next-steps yielded before rest first all x is so_far from = ap (λ xs. yielded ++ xs) (sym is) ∙ so_far ∙ from

more-steps : (yielded before rest first : List RunView) (x : RunView) → before ≡ x ∷ rest → yielded ++ before ≡ first
    → (yielded ++ x ∷ []) ++ rest ≡ first
more-steps yielded before rest first x is so_far = append_assoc yielded (x ∷ []) rest ∙ ap (λ xs. yielded ++ xs) (sym is) ∙ so_far

more-driven : (ds more : List DoneView) (d : DoneView) (yielded : List RunView) (x : RunView) → more ≡ ds ++ d ∷ [] → runs_of ds ≡ yielded
    → d.run ≡ x → runs_of more ≡ yielded ++ x ∷ []
more-driven ds more d yielded x is so_far own = ap runs_of is ∙ runs-push ds d ∙ ap₂ (λ rs (r : RunView). rs ++ r ∷ []) so_far own

more-ended : (ds more : List DoneView) (d : DoneView) (x : RunView) → more ≡ ds ++ d ∷ [] → All (λ (e : DoneView). IsEnd e.run e.ended) ds
    → d.run ≡ x → IsEnd x d.ended → All (λ (e : DoneView). IsEnd e.run e.ended) more
more-ended ds more d x is so_far own end =
    subst (λ es. All (λ (e : DoneView). IsEnd e.run e.ended) es) (sym is)
    (All-push (λ (e : DoneView). IsEnd e.run e.ended) ds d so_far (subst (λ (r : RunView). IsEnd r d.ended) (sym own) end))

-- all runs were driven where none is left
all-driven : (ds : List DoneView) (yielded left first all : List RunView) → runs_of ds ≡ yielded → left ≡ [] → yielded ++ left ≡ first → first ≡ all
    → runs_of ds ≡ all
all-driven ds yielded left first all driven none so_far from = driven ∙ sym (append-nil yielded) ∙ ap (λ xs. yielded ++ xs) (sym none) ∙ so_far ∙ from

-- ---- the loop

-- the run at hand is behind those that were driven, and before the rest
behind : (g : _) (c : After-len-bank g) → c.banks.yielded ++ c.in-Some.opened ∷ into_iter_items c.next.new.self ≡ c.args.runs.items
behind g c =
    next-steps c.banks.yielded (into_iter_items c.banks.opened-iterator) (into_iter_items c.next.new.self) (into_iter_items c.into_iter-opened-iterator.result) c.args.runs.items c.in-Some.opened
    c.in-Some.ensures.steps.0 c.banks.invariant.steps c.into_iter-opened-iterator.ensures.into_iter_gives.0

-- as many were driven as came before it
number : (g : _) (c : After-len-bank g) → c.len-bank.result ≡ length c.banks.yielded
number g c =
    let long : c.len-bank.result ≡ length c.banks.driven.items = search rules in
    long ∙ sym (length-map c.banks.driven.items (λ (d : DoneView). d.run)) ∙ ap length c.banks.invariant.driven

pub bounds-plans-bank : goal.bounds-plans-bank
bounds-plans-bank g c =
    let at = (goal.at.bounds-plans-bank g c).After-len-bank in
    omega (arith, number g at, plan-within arc_value c.args.plans.now c.args.runs.items c.banks.yielded (into_iter_items c.next.new.self) c.in-Some.opened c.requires.plans (behind g at))

pub drive_bank-done-requires-clause-plan : goal.drive_bank-done-requires-clause-plan
drive_bank-done-requires-clause-plan g c κs held =
    let at = (goal.at.drive_bank-done-requires-clause-plan g c).After-len-bank in
    let p = c.index-plans-bank.result in
    let is : p ≡ get_or c.args.plans.now (length c.banks.yielded) p = subst (λ k. p ≡ get_or c.args.plans.now k p) (number g at) c.index-plans-bank.is in
    c.deref.ensures ∙ plan-at arc_value c.args.plans.now c.args.runs.items c.banks.yielded (into_iter_items c.next.new.self) c.in-Some.opened c.requires.plans (behind g at) p is

pub put-requires : goal.put-requires
put-requires g c =
    let at = (goal.at.put-requires g c).After-len-bank in
    let long : c.len-bank.result ≡ length c.banks.driven.items = search rules in
    let own : vec_len c.banks.driven ≡ length c.banks.driven.items = search rules in
    let total = ap length (behind g at) in
    let more = length-append c.banks.yielded (c.in-Some.opened ∷ into_iter_items c.next.new.self) in
    let from = ap length c.into_iter-opened-iterator.ensures.into_iter_gives.0 in
    omega (arith, number g at, c.banks.invariant.room)

pub banks-preserved : goal.banks-preserved
banks-preserved g c =
    let at = c.banks in
    let x = c.in-Some.opened in
    let rest = into_iter_items c.next.new.self in
    let steps : into_iter_items at.opened-iterator ≡ x ∷ rest = c.in-Some.ensures.steps.0 in
    record {
      steps = more-steps at.yielded (into_iter_items at.opened-iterator) rest (into_iter_items c.into_iter-opened-iterator.result) x steps at.invariant.steps;
      left = let short = ap length steps in let was = at.invariant.left in let gone = c.in-Some.ensures.steps.1 in omega arith;
      driven = more-driven at.driven.items c.put.new.driven.items c.drive_bank-done.result at.yielded x c.put.ensures.items at.invariant.driven c.drive_bank-done.ensures.run;
      ended = more-ended at.driven.items c.put.new.driven.items c.drive_bank-done.result x c.put.ensures.items at.invariant.ended c.drive_bank-done.ensures.run c.drive_bank-done.ensures.ended;
      room = omega (arith, at.invariant.room, c.put.ensures.room);
    }

pub returns-clause-runs : goal.returns-clause-runs
returns-clause-runs g c =
    let at = c.banks in
    let none = c.in-None.ensures.steps in
    let empty : into_iter_items at.opened-iterator ≡ [] = nothing-left (into_iter_items at.opened-iterator) (sym at.invariant.left ∙ none.0) in
    all-driven at.driven.items at.yielded (into_iter_items at.opened-iterator) (into_iter_items c.into_iter-opened-iterator.result) c.args.runs.items
    at.invariant.driven empty at.invariant.steps c.into_iter-opened-iterator.ensures.into_iter_gives.0
