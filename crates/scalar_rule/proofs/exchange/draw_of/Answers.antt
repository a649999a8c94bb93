use Rattle.std.proofs.Common.{get_or, ap, ◌∙◌}
use Rattle.spin_model.specs.Stream.{draw}
use Rattle.spin_model.proofs.Tables.{get_or-table}
use Rattle.scalar_rule.proofs.exchange.draw_of.Goals as goal

pub returns-clause-drawn : goal.returns-clause-drawn
returns-clause-drawn c =
    ap (λ xs. get_or xs c.args.bit 0) c.fill.ensures.drawn ∙ get_or-table (draw c.args.wheel.now) 64 c.args.bit 0 c.requires
