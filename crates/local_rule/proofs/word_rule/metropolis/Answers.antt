-- The count's three bits tell whether it is above three, and which of three cases it is.
use Rattle.std.proofs.Common.{nat_lt, not, if◌then◌else◌, slice_index, get_or, sym, ap, ◌∙◌, arith}
use Rattle.multispin_word.specs.Planes.{is_set}
use Rattle.local_rule.specs.SiteBits.{set_count}
use Rattle.local_rule.proofs.Cases.{three}
use Rattle.local_rule.proofs.Counts.{number-three, set_count-six, set_count-most}
use Rattle.local_rule.proofs.word_rule.metropolis.Goals as goal

pub returns : goal.returns
returns c = λ b h.
    let planes = c.count6-count.result.words in
    let six = c.args.satisfied.now in
    let old = is_set c.args.spin b in
    let digits = number-three planes b (omega arith) in
    let count = set_count-six six b (omega arith) ∙ sym (c.count6-count.ensures b) ∙ digits in
    rw (
      c.flipped.ensures b h,
      c.choose-accepted.ensures b h,
      c.choose-four_five.ensures b h,
      c.below.ensures b h,
      c.below-2.ensures b h,
      c.below-3.ensures b h,
    )
    (ap (λ turns. if turns then not old else old)
    (three (λ n. nat_lt c.args.draw (slice_index c.args.row.now.values n)) (is_set (get_or planes 0 0) b) (is_set (get_or planes 1 0) b) (is_set (get_or planes 2 0) b) (set_count six b) count (set_count-most six b (omega arith))))
