use Rattle.potts_glass.specs.SitesBeside.{bit_in}
use Rattle.potts_glass.proofs.Votes.{three-votes}
use Rattle.potts_glass.proofs.beside.sum_of.Goals as goal

pub returns : goal.returns
returns g c = λ i k h e f t.
    let u = c.args.a.now in
    let v = c.args.b.now in
    let w = c.args.c.now in
    rw (
      c.differing_lanes-2.ensures.differing i k h,
      c.differing_lanes-3.ensures.differing i k h,
      c.joined_lanes.ensures.joined i k h,
      c.shared_lanes-3.ensures.shared i k h,
      c.joined_lanes-twos.ensures.joined i k h,
      c.joined_lanes-more.ensures.joined i k h,
      c.shared_lanes-fours.ensures.shared i k h,
      c.shared_lanes.ensures.shared i k h,
      c.shared_lanes-2.ensures.shared i k h,
      c.differing_lanes.ensures.differing i k h,
      c.differing_lanes-ones.ensures.differing i k h,
      c.load.ensures.same,
      c.load-2.ensures.same,
      c.load-3.ensures.same,
      c.load-4.ensures.same,
      c.load-5.ensures.same,
      c.load-6.ensures.same,
      c.load-7.ensures.same,
      c.load-8.ensures.same,
      c.load-9.ensures.same,
      c.load-10.ensures.same,
      c.load-11.ensures.same,
    )
    (three-votes (bit_in u 0 i k) (bit_in u 1 i k) (bit_in v 0 i k) (bit_in v 1 i k) (bit_in w 0 i k) (bit_in w 1 i k) e f t)
