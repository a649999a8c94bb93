use Rattle.std.proofs.Common.{ℕ, ◌+◌, ◌++◌, get_or, bit_xor, ap, sym, ◌∙◌, arith}
use Rattle.std.proofs.lemmas.Simd.{length-zip2, get_or-zip2}
use Rattle.spin_model.specs.Steps.{table}
use Rattle.spin_model.proofs.Tables.{get_or-table, length-table}
use Rattle.pr_generator.proofs.rows.draw_row.Goals as goal

pub returns-clause-xors : goal.returns-clause-xors
unfolding table
returns-clause-xors c = λ k below.
    let old = c.args.old ++ c.args.behind in
    let from_fourth : ℕ → ℕ = λ k. get_or old (3 + k) 0 in
    get_or-zip2 bit_xor c.args.sums (table from_fourth 8) k 0 0 0 (omega (arith, c.requires)) (omega (arith, length-table from_fourth 8))
    ∙ ap (bit_xor (get_or c.args.sums k 0)) (get_or-table from_fourth 8 k 0 below)

pub returns-clause-sized : goal.returns-clause-sized
unfolding table
returns-clause-sized c =
    let from_fourth : ℕ → ℕ = λ k. get_or (c.args.old ++ c.args.behind) (3 + k) 0 in
    length-zip2 bit_xor c.args.sums (table from_fourth 8) (c.requires ∙ sym (length-table from_fourth 8)) ∙ c.requires
