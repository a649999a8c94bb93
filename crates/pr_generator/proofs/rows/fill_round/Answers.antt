use Rattle.std.proofs.Common.{◌≡◌, ◌+◌, ◌*◌, ◌-◌, [], get_or, ap, sym, ◌∙◌, arith}
use Rattle.spin_model.specs.Stream.{advanced, draws}
use Rattle.spin_model.proofs.Streams.{advanced-zero, advanced-advanced}
use Rattle.spin_model.proofs.Tables.{table-zero}
use Rattle.pr_generator.specs.Rows.{state_of}
use Rattle.pr_generator.proofs.RowTurns.{draws-written}
use Rattle.pr_generator.proofs.RowOrder.{from_row-zero, from_row-all}
use Rattle.pr_generator.proofs.rows.fill_round.Goals as goal

pub turns-init : goal.turns-init
turns-init c =
    let whole = sym (from_row-zero c.args.rows.now) in
    record {
      rows = c.requires.rows;
      old = c.row_of-old.ensures ∙ ap (λ rows. get_or rows 0 []) whole;
      far = c.row_of-far.ensures ∙ ap (λ rows. get_or rows 1 []) whole;
      moved = sym (ap state_of whole) ∙ sym (advanced-zero (state_of c.args.rows.now));
      drawn = sym (table-zero _);
    }

pub turns-preserved : goal.turns-preserved
turns-preserved c =
    let w = state_of c.args.rows.now in
    let n = 8 * c.turns.k in
    let later : n + 8 ≡ 8 * (c.turns.k + 1) = omega arith in
    record {
      rows = c.turn_at-behind.ensures.rows;
      old = c.turn_at-behind.ensures.old;
      far = c.turn_at-behind.ensures.far;
      moved = c.turn_at-behind.ensures.moved ∙ ap (λ v. advanced v 8) c.turns.invariant.moved ∙ advanced-advanced w n 8 ∙ ap (advanced w) later;
      drawn =
          draws-written w n 8 (8 * (c.turns.k + 1)) (n + 8 - n) c.turns.out c.turn_at-behind.new.out c.turns.invariant.drawn
          (c.turn_at-behind.ensures.drawn ∙ ap (λ v. draws v 8) c.turns.invariant.moved) (omega arith) later;
    }

pub returns-clause-moved : goal.returns-clause-moved
returns-clause-moved c =
    let last : c.turns.k ≡ 8 = omega arith in
    sym (ap state_of (from_row-all c.turns.rows c.turns.invariant.rows.sized)) ∙ (rw last at c.turns.invariant.moved)
