use Rattle.std.proofs.Common.{◌≡◌, ◌*◌, ◌∷◌, ◌++◌, length, List, drop, take, get_or, [], ap, sym, ◌∙◌, arith}
use Rattle.spin_model.specs.Steps.{table}
use Rattle.spin_model.specs.Stream.{stream_word}
use Rattle.spin_model.proofs.Tables.{length-table}
use Rattle.pr_generator.specs.Rows.{joined, state_of}
use Rattle.pr_generator.proofs.RowTurns.{rows-two_on, two_on-long, table-are_rows, joined-table-eight, state-at}
use Rattle.pr_generator.proofs.rows.turn_by_two.Goals as goal

pub returns-clause-rows : goal.returns-clause-rows
returns-clause-rows c =
    let rows = c.args.rows.now in
    let new = get_or c.turn-drawn.new.rows 7 [] in
    let long : length new ≡ 8 = ap length c.turn-drawn.ensures.last ∙ length-table _ 8 in
    rw (c.two_on.ensures, c.two_on-2.ensures, c.two_on-3.ensures, c.two_on-4.ensures, c.two_on-5.ensures, c.two_on-6.ensures, c.two_on-7.ensures, c.two_on-8.ensures, rows-two_on rows new c.requires long)
    (table-are_rows (drop 2 (joined rows ++ new)) (two_on-long rows new c.requires long))

pub returns-clause-moved : goal.returns-clause-moved
returns-clause-moved c =
    let rows = c.args.rows.now in
    let new = get_or c.turn-drawn.new.rows 7 [] in
    let long : length new ≡ 8 = ap length c.turn-drawn.ensures.last ∙ length-table _ 8 in
    let shifted : c.two_on.result ∷ c.two_on-2.result ∷ c.two_on-3.result ∷ c.two_on-4.result ∷ c.two_on-5.result ∷ c.two_on-6.result ∷ c.two_on-7.result ∷ c.two_on-8.result ∷ []
    ≡ table (λ q. take 8 (drop (8 * q) (drop 2 (joined rows ++ new)))) 8 =
    rw (c.two_on.ensures, c.two_on-2.ensures, c.two_on-3.ensures, c.two_on-4.ensures, c.two_on-5.ensures, c.two_on-6.ensures, c.two_on-7.ensures, c.two_on-8.ensures) (rows-two_on rows new c.requires long)
    in
    ap state_of shifted
    ∙ ap (drop 3) (joined-table-eight (drop 2 (joined rows ++ new)) (two_on-long rows new c.requires long) ∙ ap (λ v. take 64 (drop 2 (joined rows ++ v))) c.turn-drawn.ensures.last)
    ∙ state-at rows 2 c.requires (omega arith)
