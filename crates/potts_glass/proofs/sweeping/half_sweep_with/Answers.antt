use Rattle.std.proofs.Common.{◌≡◌, ◌+◌, ◌*◌, ◌<◌, [], length, get_or, refl, sym, ap, ◌∙◌, arith, rules, zero-add}
use native.Mathlib.Nat.{zero-mul}
use Rattle.std.proofs.lemmas.Nat.{mul-add-lt}
use Rattle.std.proofs.lemmas.List.{get_or_default, length-set}
use Rattle.spin_model.proofs.Stepping.{steps-zero, steps-more}
use Rattle.potts_glass.specs.Potts.{plane_drawn}
use Rattle.potts_glass.specs.PottsStates.{dynamics_on}
use Rattle.potts_glass.proofs.Sweeps.{plane-more, plane_drawn-before}
use Rattle.potts_glass.proofs.sweeping.half_sweep_with.Goals as goal

pub planes-init : goal.planes-init
planes-init c = record {
  colours = λ b h. rw (zero-mul (c.args.sweep.now.lattice.now * c.args.sweep.now.lattice.now)) (sym (steps-zero _ _ _));
  words = sym (steps-zero _ _ _);
  sites = refl;
  wheels = refl;
}

pub planes-preserved : goal.planes-preserved
planes-preserved c =
    let l = c.args.sweep.now.lattice.now in
    let class = c.args.sweep.now.class in
    let z = c.planes.z in
    let words = c.args.wheels.now in
    let size = c.size-size.ensures.value in
    let inv = c.planes.invariant in
    let lists : length c.planes.wheels ≡ 2 * l = inv.wheels ∙ c.requires.wheels in
    let below = mul-add-lt class l z 2 c.requires.class (rw size at c.planes-test.true) in
    let index : class * l + z < length c.planes.wheels = omega arith in
    let read : c.at_mut.result.now ≡ get_or c.planes.wheels (class * l + z) [] =
    rw size at c.at_mut.ensures.value ∙ get_or_default c.planes.wheels (class * l + z) c.at_mut.result.now [] index in
    let count : length c.planes.plane_draws ≡ l * l = rw (← size) (search (rules, arith)) in
    let drawn = rw count at c.fill.ensures.drawn in
    let moved = rw count at c.fill.ensures.moved in
    let wheel : c.at_mut.result.now ≡ get_or words (class * l + z) [] =
    read ∙ ap (λ v. get_or v (class * l + z) []) inv.words ∙ plane_drawn-before l class z (class * l + z) words (omega arith) in
    record {
      colours = λ b h. plane-more (dynamics_on l c.args.sweep.now.couplings.now c.args.sweep.now.row.now.values b) words class z _ _ _ c.fill.new.out c.at_mut.result.now c.size-size.ensures.lawful (inv.colours b h) wheel drawn (c.sweep_plane.ensures.colours b h);
      words = rw (size, moved, read, inv.words) (sym (rw zero-add at (steps-more (plane_drawn l class) 0 z words)));
      sites = c.sweep_plane.ensures.sites ∙ inv.sites;
      wheels = length-set c.planes.wheels _ _ ∙ inv.wheels;
    }
