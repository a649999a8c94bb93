-- A sample is in the mask where it is not in order, or where its draw is below the threshold of its gap.
use Rattle.std.proofs.Common.{ap, ◌∙◌, ◌-◌, ◌/◌, ◌||◌, nat_lt, get_or, arith}
use Rattle.spin_model.specs.Stream.{draw}
use Rattle.spin_model.proofs.Tables.{get_or-table}
use Rattle.threshold_table.specs.Tables.{swap_threshold}
use Rattle.multispin_word.specs.Planes.{number}
use Rattle.multispin_word.proofs.Bits.{is_set-or, is_set-not}
use Rattle.masked_swap.proofs.Deciding.{not-less}
use Rattle.masked_swap.proofs.decision.decide.Goals as goal

pub returns-clause-mask : goal.returns-clause-mask
returns-clause-mask c = λ b h.
    let ordered = c.less_by-ordered.result.0 in
    let cold = number c.args.cold.now.words b in
    let hot = number c.args.hot.now.words b in
    let drawn = ap (λ xs. get_or xs b 0) c.fill.ensures.drawn ∙ get_or-table (draw c.args.wheel.now) 64 b 0 h in
    let gap = c.to_numbers.ensures b h ∙ c.less_by-ordered.ensures.more b h in
    is_set-or _ c.below_limits.result b
    ∙ rw (
      is_set-not ordered b (omega arith) h,
      c.less_by-ordered.ensures.less b h,
      c.below_limits.ensures b h,
      c.limits_of.ensures b h,
      drawn,
      gap,
    )
    (ap (λ t. t || nat_lt (draw c.args.wheel.now b) (swap_threshold c.args.table.now c.args.pair ((hot - cold - 1) / 2)))
    (not-less cold hot))
