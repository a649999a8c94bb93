use Rattle.std.proofs.Common.{inl, inr, ◌≡◌, ◌+◌, get_or, ap, ◌∙◌, arith}
use Rattle.std.proofs.lemmas.Bool.{cases_lt}
use Rattle.spin_model.specs.Lattice.{next}
use Rattle.plane_sweep.specs.PlaneSweep.{right_column}
use Rattle.plane_sweep.proofs.FourLanes.{next-inside, next-around}
use Rattle.plane_sweep.proofs.lanes.four_ahead.Goals as goal
use Rattle.plane_sweep.proofs.lanes.four_ahead.Goals.{then-row, else-row, then-k-row, else-k-row}

pub returns-clause-words : goal.returns-clause-words
returns-clause-words c = λ i lane.
    let words = c.args.words.now in
    let row = c.args.row.now in
    let k = c.args.k in
    elim c.if-row.branch [
      | then-row w ↦
          let place : row.here + k + i ≡ row.here + right_column row (k + i) = rw w.if-row.true (omega arith) in
          ap (λ xs. get_or xs i 0) w.result-is ∙ w.words_at.ensures.words i lane ∙ ap (λ n. get_or words n 0) place
      | else-row w ↦ elim w.if-k-row.branch [
        | then-k-row v ↦
            let one : next row.half (k + i) ≡ k + i + 1 = next-inside row.half (k + i) (omega (arith, v.if-k-row.true)) in
            let place : row.here + k + 1 + i ≡ row.here + right_column row (k + i) = rw w.if-row.false (omega arith) in
            ap (λ xs. get_or xs i 0) (w.result-is ∙ v.result-is) ∙ v.words_at-then-k-row.ensures.words i lane ∙ ap (λ n. get_or words n 0) place
        | else-k-row v ↦ elim (cases_lt i 3) [
          | inl front ↦
              let one : next row.half (k + i) ≡ k + i + 1 = next-inside row.half (k + i) (omega arith) in
              let place : row.here + k + (i + 1) ≡ row.here + right_column row (k + i) = rw w.if-row.false (omega arith) in
              ap (λ xs. get_or xs i 0) (w.result-is ∙ v.result-is) ∙ v.one_on.ensures.front i front ∙ v.words_at-else-k-row.ensures.words (i + 1) (omega arith) ∙ ap (λ n. get_or words n 0) place
          | inr not ↦
              let last : i ≡ 3 = omega arith in
              let none : next row.half (k + i) ≡ 0 = next-around row.half (k + i) (omega (arith, v.if-k-row.false, c.requires.within)) in
              let place : row.here + 0 ≡ row.here + right_column row (k + i) = rw w.if-row.false (omega arith) in
              ap (λ xs. get_or xs i 0) (w.result-is ∙ v.result-is) ∙ ap (λ n. get_or v.one_on.result n 0) last ∙ v.one_on.ensures.last ∙ v.words_at-else-k-row-2.ensures.words 0 (omega arith) ∙ ap (λ n. get_or words n 0) place
        ]
      ]
    ]
