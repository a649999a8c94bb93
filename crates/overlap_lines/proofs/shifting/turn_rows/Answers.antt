-- The rows before the new one are as they were.
use Rattle.std.proofs.Common.{inl, inr, ◌≡◌, ◌+◌, ◌*◌, ◌∙◌, arith}
use Rattle.std.proofs.lemmas.Bool.{cases_lt}
use Rattle.std.proofs.lemmas.Nat.{mul-add-lt}
use Rattle.std.proofs.Math.Nat.{mul_comm}
use Rattle.overlap_lines.proofs.shifting.turn_rows.Goals as goal

pub rows-preserved : goal.rows-preserved
rows-preserved c =
    let known = c.rows.invariant in
    record {
      long = omega (arith, known.long, c.turn_from.auto.out);
      done = λ j k h below. elim (cases_lt j c.rows.y) [
        | inl less ↦
            let bound = mul-add-lt j c.args.row k c.rows.y less below in
            let turned = mul_comm c.args.row c.rows.y in
            c.turn_from.ensures.before (j * c.args.row + k) (omega arith) ∙ known.done j k less below
        | inr not ↦
            let last : c.rows.y ≡ j = omega arith in
            rw (← last) (c.turn_from.ensures.turned k below)
      ];
    }
