-- Six bits are counted by two adders, whose two sums are added by their bits.
use Rattle.std.proofs.Common.{ℕ, [], ◌∷◌, slice_index, slice_index_or, refl, ◌∙◌, sym, arith}
use Rattle.multispin_word.specs.Planes.{is_set}
use Rattle.local_rule.proofs.Cases.{six}
use Rattle.local_rule.proofs.Counts.{number-three, lane-set}
use Rattle.local_rule.proofs.vectors.count_lanes.Goals as goal

pub returns : goal.returns
returns g c = λ i b h.
    let rows = c.args.six.now in
    let bit : ℕ → _ = λ n. is_set (slice_index (slice_index_or rows n []) i) b in
    number-three (slice_index c.differing_lanes.result i ∷ slice_index c.differing_lanes-2.result i ∷ slice_index c.choose_lanes.result i ∷ []) b refl
    ∙ rw (
      c.differing_lanes.ensures.differing i b h,
      c.differing_lanes-2.ensures.differing i b h,
      c.choose_lanes.ensures.chosen i b h,
      c.differing_lanes-either_twos.ensures.differing i b h,
      c.shared_lanes-carry.ensures.shared i b h,
      c.carry_lanes-front_twos.ensures.carry i b h,
      c.carry_lanes.ensures.carry i b h,
      c.sum_lanes-front.ensures.sum i b h,
      c.sum_lanes-back.ensures.sum i b h,
      c.load-a.ensures.same,
      c.load-b.ensures.same,
      c.load-c.ensures.same,
      c.load-d.ensures.same,
      c.load-e.ensures.same,
      c.load-f.ensures.same,
    )
    (six (bit 0) (bit 1) (bit 2) (bit 3) (bit 4) (bit 5))
    ∙ sym (lane-set rows i b (omega arith))
