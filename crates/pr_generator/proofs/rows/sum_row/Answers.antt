use Rattle.std.proofs.Common.{ℕ, ◌+◌, ◌++◌, get_or, ap, sym, ◌∙◌, arith}
use Rattle.std.proofs.lemmas.Simd.{length-zip2, get_or-zip2}
use Rattle.spin_model.specs.Words.{word_sum}
use Rattle.spin_model.specs.Steps.{table}
use Rattle.spin_model.proofs.Tables.{get_or-table, length-table}
use Rattle.pr_generator.proofs.rows.sum_row.Goals as goal

pub returns-clause-sums : goal.returns-clause-sums
unfolding table
returns-clause-sums c = λ k below.
    let far = c.args.far ++ c.args.behind in
    let from_second : ℕ → ℕ = λ k. get_or far (1 + k) 0 in
    get_or-zip2 word_sum c.args.near (table from_second 8) k 0 0 0 (omega (arith, c.requires)) (omega (arith, length-table from_second 8))
    ∙ ap (word_sum (get_or c.args.near k 0)) (get_or-table from_second 8 k 0 below)

pub returns-clause-sized : goal.returns-clause-sized
unfolding table
returns-clause-sized c =
    let from_second : ℕ → ℕ = λ k. get_or (c.args.far ++ c.args.behind) (1 + k) 0 in
    length-zip2 word_sum c.args.near (table from_second 8) (c.requires ∙ sym (length-table from_second 8)) ∙ c.requires
