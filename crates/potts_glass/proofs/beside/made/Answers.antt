-- The planes of the two sums pick the case of the change.
use Rattle.std.proofs.Common.{nat_lt, slice_index}
use Rattle.potts_glass.specs.SitesBeside.{bit_in}
use Rattle.potts_glass.proofs.SixVotes.{six-votes}
use Rattle.potts_glass.proofs.beside.made.Goals as goal

pub returns : goal.returns
returns g c = λ i b lost won h l e.
    let front = c.args.front.now in
    let back = c.args.back.now in
    rw (
      c.joined_lanes-2.ensures.joined i b h,
      c.choose_lanes-costly.ensures.chosen i b h,
      c.joined_lanes.ensures.joined i b h,
      c.choose_lanes-from_three.ensures.chosen i b h,
      c.choose_lanes-one_two.ensures.chosen i b h,
      c.choose_lanes-three_four.ensures.chosen i b h,
      c.choose_lanes-five_six.ensures.chosen i b h,
      c.joined_lanes-free.ensures.joined i b h,
      c.shared_lanes-3.ensures.shared i b h,
      c.shared_lanes-4.ensures.shared i b h,
      c.joined_lanes-fours.ensures.joined i b h,
      c.joined_lanes-either.ensures.joined i b h,
      c.joined_lanes-more.ensures.joined i b h,
      c.shared_lanes.ensures.shared i b h,
      c.shared_lanes-2.ensures.shared i b h,
      c.differing_lanes-twos.ensures.differing i b h,
      c.differing_lanes-some.ensures.differing i b h,
      c.differing_lanes-ones.ensures.differing i b h,
      c.shared_lanes-carry.ensures.shared i b h,
      c.load.ensures.same,
      c.load-2.ensures.same,
      c.load-3.ensures.same,
      c.load-4.ensures.same,
      c.load-5.ensures.same,
      c.load-6.ensures.same,
      c.load-7.ensures.same,
      c.load-8.ensures.same,
      c.load-9.ensures.same,
      c.load-10.ensures.same,
      c.load-11.ensures.same,
      c.load-12.ensures.same,
      c.below_lanes.ensures.below i b h l,
      c.below_lanes-2.ensures.below i b h l,
      c.below_lanes-3.ensures.below i b h l,
      c.below_lanes-4.ensures.below i b h l,
      c.below_lanes-5.ensures.below i b h l,
      c.below_lanes-6.ensures.below i b h l,
    )
    (six-votes (λ n. nat_lt (slice_index c.args.draws.now i) (slice_index c.args.row.now.values n)) (bit_in front 0 i b) (bit_in back 0 i b) (bit_in front 1 i b) (bit_in back 1 i b) (bit_in front 2 i b) (bit_in back 2 i b) lost won e)
