-- The two sums of three bits are compared, and not the six bits.
use Rattle.std.proofs.Common.{ℕ, [], slice_index, slice_index_or, ◌∙◌, sym, arith}
use Rattle.multispin_word.specs.Planes.{is_set}
use Rattle.local_rule.proofs.Cases.{six-equal}
use Rattle.local_rule.proofs.Counts.{lane-equal}
use Rattle.local_rule.proofs.vectors.equal_lanes.Goals as goal

pub returns : goal.returns
returns g c = λ i b h.
    let rows = c.args.six.now in
    let bit : ℕ → _ = λ n. is_set (slice_index (slice_index_or rows n []) i) b in
    let s = is_set (slice_index c.args.same.now i) b in
    lane-equal rows i (slice_index c.args.same.now i) b (omega arith)
    ∙ sym (rw (
      c.differing_lanes-2.ensures.differing i b h,
      c.choose_lanes.ensures.chosen i b h,
      c.differing_lanes-few_twos.ensures.differing i b h,
      c.joined_lanes-no_carry.ensures.joined i b h,
      c.differing_lanes.ensures.differing i b h,
      c.differing_lanes-either_twos.ensures.differing i b h,
      c.differing_lanes-ones.ensures.differing i b h,
      c.carry_lanes-front_twos.ensures.carry i b h,
      c.carry_lanes.ensures.carry i b h,
      c.sum_lanes-front.ensures.sum i b h,
      c.sum_lanes-back.ensures.sum i b h,
      c.load-same.ensures.same,
      c.load-a.ensures.same,
      c.load-b.ensures.same,
      c.load-c.ensures.same,
      c.load-d.ensures.same,
      c.load-e.ensures.same,
      c.load-f.ensures.same,
    )
    (six-equal (bit 0) (bit 1) (bit 2) (bit 3) (bit 4) (bit 5) s))
