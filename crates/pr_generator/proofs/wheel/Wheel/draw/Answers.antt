use Rattle.std.proofs.Common.{◌∙◌, ap, get_or, lit<}
use Rattle.spin_model.specs.Stream.{draw}
use Rattle.spin_model.proofs.Tables.{get_or-table}
use Rattle.pr_generator.specs.Rows.{state_of}
use Rattle.pr_generator.proofs.wheel.Wheel.draw.Goals as goal

pub returns-clause-drawn : goal.returns-clause-drawn
returns-clause-drawn c =
    ap (λ v. get_or v 0 0) c.turn_by.ensures.drawn
    ∙ get_or-table (draw (state_of c.self.inside.rows)) 8 0 0 (lit< tt)
    ∙ ap (λ v. draw v 0) c.self.view_is
