-- In each lane the count's three bits pick its case among seven.
use Rattle.std.proofs.Common.{ℕ, [], nat_lt, slice_index, slice_index_or, arith}
use Rattle.multispin_word.specs.Planes.{is_set}
use Rattle.local_rule.specs.SiteBits.{set_count, lane_words}
use Rattle.local_rule.proofs.Cases.{seven}
use Rattle.local_rule.proofs.Counts.{lane-digits, lane-six, set_count-most}
use Rattle.local_rule.proofs.lane_rule.heat_bath_any.Goals as goal

pub returns : goal.returns
returns g c = λ i b h l.
    let planes = c.count_lanes.result in
    let six = lane_words c.args.aligned.now i in
    let digits = lane-digits planes i b (set_count six b) (omega arith) (c.count_lanes.ensures i b h) in
    let most = set_count-most six b (lane-six c.args.aligned.now i (omega arith)) in
    let bit : ℕ → _ = λ n. is_set (slice_index (slice_index_or planes n []) i) b in
    rw (
      c.choose_lanes.ensures.chosen i b h,
      c.choose_lanes-from_four.ensures.chosen i b h,
      c.choose_lanes-up_to_three.ensures.chosen i b h,
      c.choose_lanes-four_five.ensures.chosen i b h,
      c.choose_lanes-two_three.ensures.chosen i b h,
      c.choose_lanes-zero_one.ensures.chosen i b h,
      c.below_lanes.ensures.below i b h l,
      c.below_lanes-2.ensures.below i b h l,
      c.below_lanes-3.ensures.below i b h l,
      c.below_lanes-4.ensures.below i b h l,
      c.below_lanes-5.ensures.below i b h l,
      c.below_lanes-6.ensures.below i b h l,
      c.below_lanes-7.ensures.below i b h l,
      c.load-ones.ensures.same,
      c.load-twos.ensures.same,
      c.load.ensures.same,
    )
    (seven (λ n. nat_lt (slice_index c.args.draws.now i) (slice_index c.args.ready.now.row.values n)) (bit 0) (bit 1) (bit 2) (set_count six b) digits most)
