use Rattle.std.proofs.Common.{◌∙◌, ap, drop, arith}
use Rattle.std.proofs.lemmas.List.{take_all}
use Rattle.pr_generator.proofs.rows.rows_of.Goals as goal

pub returns-clause-state : goal.returns-clause-state
returns-clause-state c =
    ap (drop 3) (c.rows_at.ensures.joined ∙ take_all 64 c.behind_three.result (omega (arith, c.behind_three.ensures.sized)))
    ∙ c.behind_three.ensures.words
