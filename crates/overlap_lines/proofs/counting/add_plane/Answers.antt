-- Place by place the three words say whether the product of the two overlaps is +1.
use Rattle.std.proofs.Common.{◌≡◌, ℕ, ◌<◌, length, get_or, ap, ◌∙◌, arith}
use Rattle.multispin_word.specs.Planes.{is_set}
use Rattle.scalar_rule.specs.Neighbours.{agree}
use Rattle.spin_model.specs.Lattice.{half_plane}
use Rattle.plane_sweep.specs.Packed.{plane_at}
use Rattle.bit_totals.specs.Tallies.{mixed, set_below}
use Rattle.bit_totals.proofs.Places.{Within}
use Rattle.bit_totals.proofs.PlaceCounts.{plane-sized}
use Rattle.overlap_lines.specs.Counted.{plane_on, place_on}
use Rattle.overlap_lines.proofs.StepPlaces.{place-on-below}
use Rattle.overlap_lines.proofs.LineCounts.{plane-counted}
use Rattle.overlap_lines.proofs.counting.add_plane.Goals as goal

pub returns : goal.returns
returns c = λ b h.
    let l = c.args.pairs.now.lattice.now in
    let q = c.args.q in
    let d = c.args.pairs.now.shift.direction in
    let r = c.args.pairs.now.shift.distance in
    let one = c.args.pairs.now.first.now in
    let two = c.args.pairs.now.second.now in
    let lawful = c.size-size.ensures.lawful in
    let size : c.size-size.result ≡ l = c.size-size.ensures.value in
    let own = c.words_of-3.result.now in
    let other = c.words_of-4.result.now in
    let ahead = c.turn_plane.new.out in
    let plane : c.plane_on-plane.result ≡ plane_on l q d r = rw size at c.plane_on-plane.ensures.value in
    let first = rw plane at c.words_of.ensures in
    let second = rw plane at c.words_of-2.ensures in
    let turned = rw size at c.turn_plane.ensures in
    let on : (j : ℕ) → j < half_plane l → is_set (get_or ahead j 0) b
    ≡ agree (is_set (get_or (plane_at one.planes (plane_on l q d r)).words (place_on l q d r j) 0) b) (is_set (get_or (plane_at two.planes (plane_on l q d r)).words (place_on l q d r j) 0) b)
    = λ j k.
    let p = place_on l q d r j in
    let within : Within l q j = record { lawful = lawful; plane = c.requires.plane; place = k } in
    let below : p < length c.args.overlaps.now = omega (arith, place-on-below l q d r j within, c.requires.overlaps) in
    let found = rw (first, second) at (c.find_overlaps.ensures p b below h) in
    ap (λ v. is_set v b) (turned j k) ∙ found in
    let counted = plane-counted l q d r b one.planes two.planes own other ahead lawful c.requires.plane c.requires.direction c.requires.distance c.words_of-3.ensures c.words_of-4.ensures on in
    let long : length own ≡ half_plane l = ap length c.words_of-3.ensures ∙ plane-sized l q one c.requires.first c.requires.plane in
    let same = ap (set_below (mixed own other ahead) b) long in
    omega (arith, c.add.ensures b h, counted, same)
