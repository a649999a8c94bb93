-- The planes of the second half are those of colour 1, and a plane of the first adds the bonds of its sites.
use Rattle.std.proofs.Common.{◌≡◌, ℕ, ◌+◌, ◌-◌, ◌*◌, ◌<◌, List, length, take, drop, ap, sym, ◌∙◌, subst, arith}
use Rattle.std.proofs.Math.Nat.{add-mul, mul-le-mul_right, mul_assoc}
use Rattle.coupling_set.specs.CouplingWords.{CouplingsView, bonds_of}
use Rattle.plane_sweep.specs.Packed.{plane_at, spins_of}
use Rattle.plane_sweep.specs.declared.replica.Plane.{Plane}
use Rattle.plane_sweep.proofs.SamplePulls.{AreOthers}
use Rattle.spin_model.specs.Lattice.{half_plane}
use Rattle.spin_model.proofs.Sites.{volume-bound}
use Rattle.bit_totals.specs.Counted.{unsatisfied_from}
use Rattle.bit_totals.specs.RowBonds.{plane_count}
use Rattle.bit_totals.specs.Tallies.{tallied}
use Rattle.bit_totals.proofs.ColourBonds.{from-le}
use Rattle.bit_totals.proofs.PlaceCounts.{places-all}
use Rattle.bit_totals.proofs.PlaneBonds.{plane-counted, second-others}
use Rattle.bit_totals.proofs.energy.add_plane.Goals as goal

pub count_plane-requires-clause-room : goal.count_plane-requires-clause-room
count_plane-requires-clause-room c = λ b h.
    let l = c.args.plan.now.size in
    let z = c.args.z in
    let lawful = c.lattice.ensures.lawful in
    let known : c.size-size.result ≡ l = c.size-size.ensures.value ∙ c.lattice.ensures.value in
    let size = ap (λ (j : CouplingsView). j.size) c.couplings.ensures.value ∙ lawful.lattice in
    let below : z < l = c.requires.plane in
    let part = from-le l (bonds_of c.args.plan.now.couplings b) (spins_of l b c.args.replica.now.planes) 0 (z * half_plane l) in
    let more = add-mul z 1 (half_plane l) in
    let bound = mul-le-mul_right (half_plane l) below in
    let twice = mul_assoc 2 l (half_plane l) in
    rw size (omega (arith, c.requires.counted b h, part, more, bound, twice, places-all l lawful.size, volume-bound l lawful.size))

pub returns : goal.returns
returns c = λ b h.
    let plan = c.args.plan.now in
    let l = plan.size in
    let z = c.args.z in
    let planes = c.args.replica.now.planes in
    let lawful = c.lattice.ensures.lawful in
    let n = c.size-size.result in
    let lent = c.as_slice.result.now in
    let other = take (length lent - n) (drop n lent) in
    let own = c.words_of.result.now in
    let side = lawful.lattice in
    let known : n ≡ l = c.size-size.ensures.value ∙ c.lattice.ensures.value in
    let below : z < l = c.requires.plane in
    let P : List Plane → Type 0 = λ xs. AreOthers n 0 planes (take (length xs - n) (drop n xs)) in
    let A : ℕ → Type 0 = λ m. AreOthers m 0 planes other in
    let others : AreOthers plan.couplings.size 0 planes other =
    subst A (known ∙ sym side) (subst P (sym c.as_slice.ensures) (second-others n planes (c.requires.fits.count ∙ ap (λ m. 2 * m) (sym known)))) in
    let first : z ≡ 0 * plan.couplings.size + z = omega arith in
    let counted = plane-counted plan.couplings planes other 0 z b own lawful.couplings.lawful (omega arith) (omega (arith, below, side)) others (c.words_of.ensures ∙ ap (λ q. (plane_at planes q).words) first) in
    let T : ℕ → Type 0 = λ m. unsatisfied_from m (bonds_of plan.couplings b) (spins_of m b planes) 0 ((z + 1) * half_plane m)
    ≡ unsatisfied_from m (bonds_of plan.couplings b) (spins_of m b planes) 0 (z * half_plane m) + plane_count plan.couplings other 0 z own b (half_plane m) in
    let S : CouplingsView → Type 0 = λ j. tallied c.count_plane.new.counts b ≡ tallied c.args.tally.now.rows b + plane_count j other 0 z own b (half_plane j.size) in
    let D : ℕ → Type 0 = λ m. tallied c.count_plane.new.counts b ≡ tallied c.args.tally.now.rows b + plane_count plan.couplings other 0 z own b (half_plane m) in
    let added = subst D side (subst S c.couplings.ensures.value (c.count_plane.ensures b h)) in
    omega (arith, added, subst T side counted, c.requires.counted b h)
