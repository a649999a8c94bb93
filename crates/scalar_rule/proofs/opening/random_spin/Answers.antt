use Rattle.std.proofs.Common.{◌/◌, ◌%◌, ◌<◌, get_or, ap, ◌∙◌, arith}
use Rattle.spin_model.specs.Stream.{draw}
use Rattle.spin_model.specs.Words.{is_set}
use Rattle.spin_model.proofs.Tables.{get_or-table}
use Rattle.scalar_rule.proofs.opening.random_spin.Goals as goal

pub returns-clause-spin : goal.returns-clause-spin
returns-clause-spin c =
    let b = c.args.sample in
    let below : b / 32 < 2 = omega arith in
    c.bit.ensures ∙ ap (λ xs. is_set (get_or xs (b / 32) 0) (b % 32)) c.fill.ensures.drawn
    ∙ ap (λ w. is_set w (b % 32)) (get_or-table (draw c.args.wheel.now) 2 (b / 32) 0 below)
