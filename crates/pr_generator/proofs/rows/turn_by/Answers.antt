use Rattle.std.proofs.Common.{◌∙◌, ap, drop, take}
use Rattle.pr_generator.proofs.RowTurns.{state-at}
use Rattle.pr_generator.proofs.rows.turn_by.Goals as goal

pub returns-clause-moved : goal.returns-clause-moved
returns-clause-moved c =
    ap (drop 3) (c.rows_at.ensures.joined ∙ ap (λ v. take 64 (drop c.args.count v)) c.turn_beside-drawn.ensures.words)
    ∙ state-at c.args.rows.now c.args.count c.requires.rows c.requires.count
