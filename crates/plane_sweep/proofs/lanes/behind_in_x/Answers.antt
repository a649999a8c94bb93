use Rattle.std.proofs.Common.{inl, inr, ◌≡◌, ℕ, ◌+◌, ◌-◌, bit_xor, get_or, ap, ◌∙◌, arith}
use Rattle.std.proofs.lemmas.Bool.{cases_eq}
use Rattle.spin_model.specs.Lattice.{previous}
use Rattle.plane_sweep.specs.PlaneSweep.{left_column}
use Rattle.plane_sweep.proofs.FourLanes.{pulled, previous-inside, previous-around}
use Rattle.plane_sweep.proofs.lanes.behind_in_x.Goals as goal
use Rattle.plane_sweep.proofs.lanes.behind_in_x.Goals.{then-not-row, else-not-row, then-k-gt0, else-k-gt0}

pub returns-clause-words : goal.returns-clause-words
returns-clause-words c = λ i lane.
    let s = c.args.around.now in
    let row = c.args.row.now in
    let k = c.args.k in
    let to : (m : ℕ) → m ≡ row.here + left_column row (k + i)
    → bit_xor (get_or s.here.now m 0) (get_or s.here_x.now m 0) ≡ bit_xor (get_or s.here.now (row.here + left_column row (k + i)) 0) (get_or s.here_x.now (row.here + left_column row (k + i)) 0) =
    λ m place. pulled s.here.now s.here_x.now m m _ _ place place in
    elim c.if-not-row.branch [
      | then-not-row w ↦
          let place : row.here + k + i ≡ row.here + left_column row (k + i) = rw w.if-not-row.true (omega arith) in
          ap (λ xs. get_or xs i 0) w.result-is ∙ w.pull.ensures.words i lane ∙ to _ place
      | else-not-row w ↦ elim w.if-k-gt0.branch [
        | then-k-gt0 v ↦
            let one : previous row.half (k + i) ≡ k + i - 1 = previous-inside row.half (k + i) (omega (arith, v.if-k-gt0.true)) (omega (arith, c.requires.within)) in
            let place : row.here + k - 1 + i ≡ row.here + left_column row (k + i) = rw w.if-not-row.false (omega (arith, v.if-k-gt0.true)) in
            ap (λ xs. get_or xs i 0) (w.result-is ∙ v.result-is) ∙ v.pull-then-k-gt0.ensures.words i lane ∙ to _ place
        | else-k-gt0 v ↦ elim (cases_eq i 0) [
          | inl first ↦
              let none : k + i ≡ 0 = omega (arith, v.if-k-gt0.false) in
              let end : previous row.half (k + i) ≡ row.half - 1 = ap (previous row.half) none ∙ previous-around row.half (omega (arith, c.requires.within)) in
              let place : row.here + (row.half - 4) + 3 ≡ row.here + left_column row (k + i) = rw w.if-not-row.false (omega (arith, c.requires.within)) in
              ap (λ xs. get_or xs i 0) (w.result-is ∙ v.result-is) ∙ ap (λ n. get_or v.one_back.result n 0) first ∙ v.one_back.ensures.first ∙ v.pull-last.ensures.words 3 (omega arith) ∙ to _ place
          | inr other ↦
              let one : previous row.half (k + i) ≡ k + i - 1 = previous-inside row.half (k + i) (omega arith) (omega (arith, c.requires.within)) in
              let place : row.here + k + (i - 1) ≡ row.here + left_column row (k + i) = rw w.if-not-row.false (omega arith) in
              let shift : i ≡ i - 1 + 1 = omega arith in
              ap (λ xs. get_or xs i 0) (w.result-is ∙ v.result-is) ∙ ap (λ n. get_or v.one_back.result n 0) shift ∙ v.one_back.ensures.rest (i - 1) (omega arith) ∙ v.pull-else-k-gt0.ensures.words (i - 1) (omega arith) ∙ to _ place
        ]
      ]
    ]
