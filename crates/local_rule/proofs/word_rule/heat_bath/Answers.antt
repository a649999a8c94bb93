-- The count's three bits pick its case among seven.
use Rattle.std.proofs.Common.{nat_lt, slice_index, get_or, sym, ◌∙◌, arith}
use Rattle.multispin_word.specs.Planes.{is_set}
use Rattle.local_rule.specs.SiteBits.{set_count}
use Rattle.local_rule.proofs.Cases.{seven}
use Rattle.local_rule.proofs.Counts.{number-three, set_count-six, set_count-most}
use Rattle.local_rule.proofs.word_rule.heat_bath.Goals as goal

pub returns : goal.returns
returns c = λ b h.
    let planes = c.count6-count.result.words in
    let six = c.args.aligned.now in
    let digits = number-three planes b (omega arith) in
    let count = set_count-six six b (omega arith) ∙ sym (c.count6-count.ensures b) ∙ digits in
    rw (
      c.choose.ensures b h,
      c.choose-from_four.ensures b h,
      c.choose-up_to_three.ensures b h,
      c.choose-four_five.ensures b h,
      c.choose-two_three.ensures b h,
      c.choose-zero_one.ensures b h,
      c.below.ensures b h,
      c.below-2.ensures b h,
      c.below-3.ensures b h,
      c.below-4.ensures b h,
      c.below-5.ensures b h,
      c.below-6.ensures b h,
      c.below-7.ensures b h,
    )
    (seven (λ n. nat_lt c.args.draw (slice_index c.args.row.now.values n)) (is_set (get_or planes 0 0) b) (is_set (get_or planes 1 0) b) (is_set (get_or planes 2 0) b) (set_count six b) count (set_count-most six b (omega arith)))
