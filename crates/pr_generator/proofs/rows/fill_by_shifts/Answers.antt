use Rattle.std.proofs.Common.{◌≡◌, ◌+◌, ◌*◌, ◌-◌, [], ◌∷◌, length, ap, refl, sym, subst, ◌∙◌, arith}
use Rattle.std.proofs.lemmas.List.{take_all}
use Rattle.spin_model.specs.Stream.{advanced, draws}
use Rattle.spin_model.proofs.Streams.{advanced-zero, advanced-advanced}
use Rattle.spin_model.proofs.Tables.{table-zero}
use Rattle.pr_generator.specs.Rows.{state_of, AreRows}
use Rattle.pr_generator.proofs.RowTurns.{rows-written, rows-are_rows, rows-advance, sums-are_words, xors-are_draws, draws-written}
use Rattle.pr_generator.proofs.rows.fill_by_shifts.Goals as goal

pub turns-init : goal.turns-init
turns-init c =
    let rows = c.row_of-a.result ∷ c.row_of-b.result ∷ c.row_of-c.result ∷ c.row_of-d.result ∷ c.row_of-e.result ∷ c.row_of-f.result ∷ c.row_of-g.result ∷ c.row_of-h.result ∷ [] in
    let written : c.args.rows.now ≡ rows =
    rows-written c.args.rows.now c.told-rows
    ∙ rw (c.row_of-a.ensures, c.row_of-b.ensures, c.row_of-c.ensures, c.row_of-d.ensures, c.row_of-e.ensures, c.row_of-f.ensures, c.row_of-g.ensures, c.row_of-h.ensures) refl in
    record {
      rows = subst AreRows written c.requires.rows;
      moved = sym (ap state_of written) ∙ sym (advanced-zero (state_of c.args.rows.now));
      drawn = sym (table-zero _);
    }

pub turns-preserved : goal.turns-preserved
turns-preserved c =
    let w = state_of c.args.rows.now in
    let i = c.turns.i in
    let rows = c.turns.a ∷ c.turns.b ∷ c.turns.c ∷ c.turns.d ∷ c.turns.e ∷ c.turns.f ∷ c.turns.g ∷ c.turns.h ∷ [] in
    let sums = c.sum_row-sums.result in
    let are = c.turns.invariant.rows in
    let words = sums-are_words rows sums are c.sum_row-sums.ensures.sized c.sum_row-sums.ensures.sums in
    let numbers = xors-are_draws rows sums c.draw_row.result are words c.draw_row.ensures.sized c.draw_row.ensures.xors in
    let later : 8 * i + 8 ≡ 8 * (i + 1) = omega arith in
    let written : c.copy_from_slice.new.self ≡ draws (advanced w (8 * i)) 8 = c.copy_from_slice.ensures.after ∙ numbers ∙ ap (λ v. draws v 8) c.turns.invariant.moved in
    record {
      rows = rows-are_rows rows sums are c.sum_row-sums.ensures.sized;
      moved = rows-advance rows sums are words ∙ ap (λ v. advanced v 8) c.turns.invariant.moved ∙ advanced-advanced w (8 * i) 8 ∙ ap (advanced w) later;
      drawn = draws-written w (8 * i) 8 (8 * (i + 1)) (8 * i + 8 - 8 * i) c.turns.out c.copy_from_slice.new.self c.turns.invariant.drawn written (omega arith) later;
    }

pub returns-clause-moved : goal.returns-clause-moved
returns-clause-moved c =
    let last : 8 * c.turns.i ≡ length c.args.out.now = omega arith in
    rw last at c.turns.invariant.moved

pub returns-clause-drawn : goal.returns-clause-drawn
returns-clause-drawn c =
    let last : 8 * c.turns.i ≡ length c.args.out.now = omega arith in
    sym (take_all (8 * c.turns.i) c.turns.out (omega arith)) ∙ c.turns.invariant.drawn ∙ ap (draws (state_of c.args.rows.now)) last
