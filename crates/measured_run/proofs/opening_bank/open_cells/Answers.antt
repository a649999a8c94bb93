use Rattle.std.proofs.Common.{◌≡◌, ◌∷◌, ◌++◌, [], length, append_assoc, ap, sym, subst, ◌∙◌, arith}
use Rattle.std.specs.Prelude.{All}
use Rattle.std.specs.Vec.Iter.{into_iter_items}
use Rattle.std.proofs.lemmas.List.{map-append}
use Rattle.std.proofs.lemmas.List.Elements.{All-push}
use Rattle.plane_sweep.specs.declared.replica.Duo.{Duo}
use Rattle.measured_run.specs.Opens.{duos_in, IsNew}
use Rattle.measured_run.specs.declared.cell.Cell.{Cell}
use Rattle.measured_run.proofs.opening_bank.open_cells.Goals as goal

pub slots-preserved : goal.slots-preserved
slots-preserved c =
    let at = c.slots in
    let x = c.in-Some.duo in
    let cell = c.in_ok-open_cell.field-0 in
    let rest = into_iter_items c.next.new.self in
    let steps : into_iter_items at.duo-iterator ≡ x ∷ rest = c.in-Some.ensures.steps.0 in
    let N : Cell → Type 0 = λ y. IsNew c.args.from c.args.until y.sums in
    record {
      steps = append_assoc at.yielded (x ∷ []) rest ∙ ap (λ xs. at.yielded ++ xs) (sym steps) ∙ at.invariant.steps;
      left = let short = ap length steps in let was = at.invariant.left in let gone = c.in-Some.ensures.steps.1 in omega arith;
      duos = ap duos_in c.in_ok-push.ensures.items ∙ map-append (λ (y : Cell). y.duo) at.cells.items (cell ∷ [])
          ∙ ap (λ ds. ds ++ cell.duo ∷ []) at.invariant.duos ∙ ap (λ (d : Duo). at.yielded ++ d ∷ []) c.in_ok-open_cell.ensures.duo;
      new = subst (All N) (sym c.in_ok-push.ensures.items) (All-push N at.cells.items cell at.invariant.new c.in_ok-open_cell.ensures.new);
    }
