-- Each of the two bits is turned where its change is set and made.
use Rattle.std.proofs.Common.{◌≡◌, ◌+◌, ◌*◌, ◌∷◌, [], Bool, true, false, if◌then◌else◌, slice_index, refl}
use Rattle.multispin_word.specs.Planes.{is_set, differs, one_if}
use Rattle.potts_glass.specs.SitesBeside.{bit_in, site_in}
use Rattle.potts_glass.proofs.Cases.{turned-in}
use Rattle.potts_glass.proofs.Colours.{colour-by_bits}
use Rattle.potts_glass.proofs.beside.changed.Goals as goal

-- two bits that are both chosen
both : (m x y u v : Bool) → one_if (if m then u else x) + 2 * one_if (if m then v else y) ≡ (if m then one_if u + 2 * one_if v else one_if x + 2 * one_if y)
both true x y u v = refl
both false x y u v = refl

pub returns : goal.returns
returns g c = λ i b h.
    let own = c.args.own.now in
    let change = c.args.change.now in
    let m = is_set (slice_index c.args.made.now i) b in
    rw (
      colour-by_bits (site_in (c.differing_lanes.result ∷ c.differing_lanes-2.result ∷ []) i) b,
      colour-by_bits (site_in own i) b,
      c.differing_lanes.ensures.differing i b h,
      c.differing_lanes-2.ensures.differing i b h,
      c.shared_lanes.ensures.shared i b h,
      c.shared_lanes-2.ensures.shared i b h,
      c.load-made.ensures.same,
      c.load.ensures.same,
      c.load-2.ensures.same,
      c.load-3.ensures.same,
      c.load-4.ensures.same,
      turned-in (bit_in own 0 i b) (bit_in change 0 i b) m,
      turned-in (bit_in own 1 i b) (bit_in change 1 i b) m,
    )
    (both m (bit_in own 0 i b) (bit_in own 1 i b) (differs (bit_in own 0 i b) (bit_in change 0 i b)) (differs (bit_in own 1 i b) (bit_in change 1 i b)))
