use Rattle.std.proofs.Common.{◌≡◌, ◌+◌, ◌*◌, ◌<◌, [], length, get_or, refl, sym, ap, ◌∙◌, arith, rules, zero-add}
use native.Mathlib.Nat.{zero-mul}
use Rattle.std.proofs.lemmas.Nat.{mul-add-lt}
use Rattle.std.proofs.lemmas.List.{get_or_default, length-set}
use Rattle.spin_model.specs.Lattice.{half_plane}
use Rattle.spin_model.proofs.Stepping.{steps-zero, steps-more}
use Rattle.scalar_rule.specs.SlotRules.{dynamics_with}
use Rattle.scalar_rule.specs.Sweep.{plane_drawn}
use Rattle.scalar_rule.proofs.PlaneSweeps.{visits-more, written_over, plane_drawn-before}
use Rattle.scalar_rule.proofs.planes.half_sweep_with.Goals as goal

pub planes-init : goal.planes-init
planes-init g c = record {
  spins = rw (zero-mul (c.args.sweep.now.lattice.now * c.args.sweep.now.lattice.now)) (sym (steps-zero _ _ _));
  words = sym (steps-zero _ _ _);
  label = refl;
  sites = refl;
  lists = refl;
}

pub planes-preserved : goal.planes-preserved
planes-preserved g c =
    let l = c.args.sweep.now.lattice.now in
    let colour = c.args.sweep.now.colour in
    let z = c.planes.z in
    let d = dynamics_with l c.args.sweep.now.rule.now (g.B.Bonds.negative c.args.sweep.now.bonds.now) in
    let words = c.args.replica.now.wheels in
    let size = c.size-size.ensures.value in
    let inv = c.planes.invariant in
    let sites : length c.visit_plane.new.spins ≡ length c.planes.replica.spins = search (rules, arith) in
    let over = written_over c.planes.replica.spins c.visit_plane.new.spins sites in
    let lists : length c.planes.replica.wheels ≡ 2 * l = inv.lists ∙ c.requires.wheels in
    let below = mul-add-lt colour l z 2 c.requires.colour (rw size at c.planes-test.true) in
    let index : colour * l + z < length c.planes.replica.wheels = omega arith in
    let read : c.at_mut.result.now ≡ get_or c.planes.replica.wheels (colour * l + z) [] =
    rw size at c.at_mut.ensures.value ∙ get_or_default c.planes.replica.wheels (colour * l + z) c.at_mut.result.now [] index in
    let count : length c.planes.plane_draws ≡ half_plane l = rw (← size) (search (rules, arith)) in
    let drawn = rw count at c.fill.ensures.drawn in
    let moved = rw count at c.fill.ensures.moved in
    let wheel : c.at_mut.result.now ≡ get_or words (colour * l + z) [] =
    read ∙ ap (λ v. get_or v (colour * l + z) []) inv.words ∙ plane_drawn-before l colour z (colour * l + z) words (omega arith) in
    record {
      spins = over ∙ visits-more d words colour z _ c.planes.replica.spins c.visit_plane.new.spins c.fill.new.out c.at_mut.result.now c.size-size.ensures.lawful inv.spins wheel drawn (rw c.as_mut_slice.ensures.value at c.visit_plane.ensures);
      words = rw (size, moved, read, inv.words) (sym (rw zero-add at (steps-more (plane_drawn l colour) 0 z words)));
      label = inv.label;
      sites = ap length over ∙ sites ∙ inv.sites;
      lists = length-set c.planes.replica.wheels _ _ ∙ inv.lists;
    }
