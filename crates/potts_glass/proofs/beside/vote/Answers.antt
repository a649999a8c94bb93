-- A neighbour's vote by the two bits in which its colour differs from the old one.
use Rattle.std.proofs.Common.{◌≡◌, ◌==◌, ◌||◌, not, slice_index, refl, sym, ◌∙◌}
use Rattle.multispin_word.specs.Planes.{is_set, differs}
use Rattle.potts_glass.specs.PackedColours.{colour_in}
use Rattle.potts_glass.specs.SitesBeside.{bit_in, led_to, site_in}
use Rattle.potts_glass.proofs.Cases.{same-bits, differs-twice}
use Rattle.potts_glass.proofs.Colours.{colour-by_bits}
use Rattle.potts_glass.proofs.Votes.{vote-worth, vote-apart}
use Rattle.potts_glass.proofs.beside.vote.Goals as goal

pub returns-clause-vote : goal.returns-clause-vote
returns-clause-vote g c = λ i b h.
    rw (c.differing_lanes.ensures.differing i b h, c.shared_lanes-3.ensures.shared i b h)
    (vote-apart (is_set (slice_index c.differing_lanes-neither.result i) b) (is_set (slice_index c.differing_lanes-new.result i) b))

pub returns-clause-worth : goal.returns-clause-worth
returns-clause-worth g c = λ i b h moves.
    let own = c.args.own.now in
    let change = c.args.change.now in
    let near = c.args.near.now in
    let p = bit_in change 0 i b in
    let q = bit_in change 1 i b in
    let x = differs (bit_in near 0 i b) (bit_in own 0 i b) in
    let y = differs (bit_in near 1 i b) (bit_in own 1 i b) in
    let j = is_set (slice_index c.args.negative.now i) b in
    let old : (colour_in (site_in near i) b == colour_in (site_in own i) b) ≡ not (x || y) =
    rw (colour-by_bits (site_in near i) b, colour-by_bits (site_in own i) b) (sym (same-bits (bit_in near 0 i b) (bit_in near 1 i b) (bit_in own 0 i b) (bit_in own 1 i b))) in
    let new : (colour_in (site_in near i) b == led_to own change i b) ≡ not (differs x p || differs y q) =
    rw (colour-by_bits (site_in near i) b)
    (sym (same-bits (bit_in near 0 i b) (bit_in near 1 i b) (differs (bit_in own 0 i b) p) (differs (bit_in own 1 i b) q))
    ∙ rw (differs-twice (bit_in near 0 i b) (bit_in own 0 i b) p, differs-twice (bit_in near 1 i b) (bit_in own 1 i b) q) refl) in
    rw (
      c.differing_lanes.ensures.differing i b h,
      c.shared_lanes-3.ensures.shared i b h,
      c.differing_lanes-neither.ensures.differing i b h,
      c.differing_lanes-new.ensures.differing i b h,
      c.joined_lanes.ensures.joined i b h,
      c.shared_lanes.ensures.shared i b h,
      c.shared_lanes-2.ensures.shared i b h,
      c.differing_lanes-low.ensures.differing i b h,
      c.differing_lanes-high.ensures.differing i b h,
      c.load.ensures.same,
      c.load-2.ensures.same,
      c.load-3.ensures.same,
      c.load-4.ensures.same,
      c.load-5.ensures.same,
      c.load-6.ensures.same,
      c.load-7.ensures.same,
      old,
      new,
    )
    (vote-worth p q x y j moves)
