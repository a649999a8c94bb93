-- The generators that are drawn from are those of the definition.
use Rattle.std.proofs.Common.{◌+◌, [], length, get_or, ap, ◌∙◌}
use Rattle.spin_model.specs.Couplings.{random}
use Rattle.spin_model.specs.Seeding.{coupling_words}
use Rattle.spin_model.specs.Stream.{draw}
use Rattle.spin_model.specs.Words.{is_set}
use Rattle.spin_model.proofs.Tables.{length-table, get_or-table}
use Rattle.coupling_set.proofs.drawing.draw_samples.Goals as goal

pub draw_rows-requires-clause-samples : goal.draw_rows-requires-clause-samples
draw_rows-requires-clause-samples c = ap length c.in_ok-wheels.ensures ∙ length-table (λ b. coupling_words c.args.seed (c.args.first + b)) 64

pub returns : goal.returns
unfolding random
returns c = λ b n small within.
    c.draw_rows.ensures b n small within
    ∙ ap (λ w. is_set (draw w n) 31) (ap (λ v. get_or v b []) c.in_ok-wheels.ensures ∙ get_or-table (λ m. coupling_words c.args.seed (c.args.first + m)) 64 b [] small)
