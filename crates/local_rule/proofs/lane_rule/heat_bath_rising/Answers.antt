-- In each lane the count's three bits pick its case among seven, each of which is raised from a lower one.
use Rattle.std.proofs.Common.{ℕ, [], slice_index, slice_index_or, arith}
use Rattle.multispin_word.specs.Planes.{is_set}
use Rattle.local_rule.specs.SiteBits.{set_count, lane_words}
use Rattle.local_rule.proofs.Counts.{lane-digits, lane-six, set_count-most}
use Rattle.local_rule.proofs.RowOrder.{rises, seven-rising}
use Rattle.local_rule.proofs.lane_rule.heat_bath_rising.Goals as goal

pub returns : goal.returns
returns g c = λ i b h l.
    let planes = c.count_lanes.result in
    let six = lane_words c.args.aligned.now i in
    let digits = lane-digits planes i b (set_count six b) (omega arith) (c.count_lanes.ensures i b h) in
    let most = set_count-most six b (lane-six c.args.aligned.now i (omega arith)) in
    let bit : ℕ → _ = λ n. is_set (slice_index (slice_index_or planes n []) i) b in
    rw (
      c.raised_lanes.ensures.raised i b h,
      c.raised_lanes-from_four.ensures.raised i b h,
      c.raised_lanes-up_to_three.ensures.raised i b h,
      c.raised_lanes-four_five.ensures.raised i b h,
      c.raised_lanes-two_three.ensures.raised i b h,
      c.raised_lanes-zero_one.ensures.raised i b h,
      c.below_lanes.ensures.below i b h l,
      c.below_lanes-2.ensures.below i b h l,
      c.below_lanes-3.ensures.below i b h l,
      c.below_lanes-4.ensures.below i b h l,
      c.below_lanes-5.ensures.below i b h l,
      c.below_lanes-6.ensures.below i b h l,
      c.below_lanes-7.ensures.below i b h l,
      c.load-ones.ensures.same,
      c.load-twos.ensures.same,
      c.load-fours.ensures.same,
    )
    (seven-rising (slice_index c.args.draws.now i) c.args.ready.now.row.values (bit 0) (bit 1) (bit 2) (set_count six b) (rises c.args.ready.now.row.values c.requires) digits most)
