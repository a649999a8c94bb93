use Rattle.std.specs.Prelude.{vec_len}
use Rattle.std.specs.Vec.Iter.{into_iter_items}
use Rattle.std.proofs.Common.{◌≡◌, List, [], ◌∷◌, ◌++◌, length, length-append, append_assoc, refl, ap, ap₂, sym, subst, ◌∙◌, arith, rules}
use Rattle.std.proofs.lemmas.List.Elements.{All-push}
use Rattle.measured_run.specs.Banks.{BankView}
use Rattle.measured_run.specs.Ends.{HasEnded, HoldBanks}
use Rattle.measured_run.proofs.BankLists.{hold-push, hold-none, hold-long}
use Rattle.measured_run.proofs.driving.drive_each.Goals as goal

pub banks-init : goal.banks-init
banks-init g c =
    let from = ap length c.into_iter-run-iterator.ensures.into_iter_gives.0 in
    record {
      steps = refl;
      rooms = refl;
      left = search rules;
      banks = c.requires.ended;
      ended = λ k d h. absurd (omega (arith, h));
      sums = subst (HoldBanks []) (sym c.requires.sums) hold-none;
      ended_room = omega (arith, from, c.requires.ended_room);
      sums_room = omega (arith, from, c.requires.sums_room);
    }

pub put-requires-in-banks : goal.put-requires-in-banks
put-requires-in-banks g c =
    let at = c.banks in
    let steps = ap length c.in-Some.ensures.steps.0 in
    let whole = ap length at.invariant.steps in
    let more = length-append at.yielded (into_iter_items at.run-iterator) in
    let held = hold-long at.yielded at.sums.items at.invariant.sums in
    let own : vec_len at.sums ≡ length at.sums.items = search rules in
    omega (arith, steps, whole, more, held, own, at.invariant.sums_room)

pub banks-preserved : goal.banks-preserved
banks-preserved g c =
    let at = c.banks in
    let x = c.in-Some.run' in
    let rest = into_iter_items c.next.new.self in
    let steps : into_iter_items at.run-iterator ≡ x ∷ rest = c.in-Some.ensures.steps.0 in
    record {
      rooms = search (rules, arith);
      steps = append_assoc at.yielded (x ∷ []) rest ∙ ap (λ xs. at.yielded ++ xs) (sym steps) ∙ at.invariant.steps;
      left = let short = ap length steps in let was = at.invariant.left in let gone = c.in-Some.ensures.steps.1 in omega arith;
      banks = c.put.ensures.items ∙ ap₂ (λ (bs : List BankView) (b : BankView). bs ++ b ∷ []) at.invariant.banks c.drive-done.ensures.bank;
      ended = All-push HasEnded at.yielded x at.invariant.ended c.drive-done.ensures.end;
      sums = subst (HoldBanks (at.yielded ++ x ∷ [])) (sym c.put-in-banks.ensures.items) (hold-push at.yielded at.sums.items x _ at.invariant.sums c.drive-done.ensures.sums);
      ended_room = omega (arith, at.invariant.ended_room, c.put.ensures.room);
      sums_room = omega (arith, at.invariant.sums_room, c.put-in-banks.ensures.room);
    }
