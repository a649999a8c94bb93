use Rattle.std.proofs.Common.{ℕ, ◌+◌, ◌-◌, ◌≤◌, List, length, take, drop, ◌∙◌, arith, length-drop, length-take-le}
use Rattle.std.proofs.lemmas.List.{take-take}
use Rattle.spin_model.specs.Steps.{table}
use Rattle.pr_generator.proofs.RowTurns.{table-are_rows, joined-table-eight}
use Rattle.pr_generator.proofs.rows.rows_at.Goals as goal

-- the part that the rows are read from has 64 words
part-long : (words : List ℕ) (place : ℕ) → place + 64 ≤ length words → 64 ≤ length (take (place + 64 - place) (drop place words))
part-long words place within =
    let rest = length-drop place words in
    let taken = length-take-le (place + 64 - place) (drop place words) (omega arith) in
    omega arith

pub returns-clause-rows : goal.returns-clause-rows
unfolding table
returns-clause-rows c =
    rw (c.row_at.ensures, c.row_at-2.ensures, c.row_at-3.ensures, c.row_at-4.ensures, c.row_at-5.ensures, c.row_at-6.ensures, c.row_at-7.ensures, c.row_at-8.ensures)
    (table-are_rows _ (part-long c.args.words.now c.args.place c.requires))

pub returns-clause-joined : goal.returns-clause-joined
unfolding table
returns-clause-joined c =
    rw (c.row_at.ensures, c.row_at-2.ensures, c.row_at-3.ensures, c.row_at-4.ensures, c.row_at-5.ensures, c.row_at-6.ensures, c.row_at-7.ensures, c.row_at-8.ensures)
    (joined-table-eight _ (part-long c.args.words.now c.args.place c.requires) ∙ take-take 64 (c.args.place + 64 - c.args.place) (drop c.args.place c.args.words.now) (omega arith))
