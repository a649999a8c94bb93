-- In each lane the count's three bits tell whether it is above three, and which of three cases within one another it is.
use Rattle.std.proofs.Common.{ℕ, [], slice_index, slice_index_or, ◌∙◌, arith}
use Rattle.multispin_word.specs.Planes.{is_set}
use Rattle.local_rule.specs.SiteBits.{equal_count, lane_words}
use Rattle.local_rule.proofs.Counts.{lane-turned, equal-most}
use Rattle.local_rule.proofs.RowOrder.{falls, turn-falling}
use Rattle.local_rule.proofs.lane_rule.flipped_falling.Goals as goal

pub returns : goal.returns
returns g c = λ i b h l.
    let planes = c.equal_lanes.result in
    let same = slice_index c.args.same.now i in
    let count = equal_count (lane_words c.args.six.now i) same b in
    let digits = c.equal_lanes.ensures i b h ∙ lane-turned planes i b (omega arith) in
    let most = equal-most c.args.six.now i same b (omega arith) in
    let bit : ℕ → _ = λ n. is_set (slice_index (slice_index_or planes n []) i) b in
    rw (
      c.differing_lanes.ensures.differing i b h,
      c.joined_lanes.ensures.joined i b h,
      c.fallen_lanes-flipped.ensures.fallen i b h l,
      c.below_lanes.ensures.below i b h l,
      c.below_lanes-2.ensures.below i b h l,
      c.below_lanes-3.ensures.below i b h l,
      c.load.ensures.same,
      c.load-2.ensures.same,
      c.load-3.ensures.same,
      c.load-4.ensures.same,
    )
    (turn-falling (slice_index c.args.draws.now i) c.args.ready.now.row.values (bit 0) (bit 1) (bit 2) (is_set (slice_index c.args.spins.now i) b) count (falls c.args.ready.now.row.values c.requires) digits most)
