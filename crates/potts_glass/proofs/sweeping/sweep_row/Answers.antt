use Rattle.std.proofs.Common.{◌≡◌, ℕ, ◌+◌, ◌*◌, ◌/◌, ◌%◌, ◌<◌, ◌≤◌, refl, sym, ap, ◌∙◌, arith}
use Rattle.spin_model.specs.Steps.{steps}
use Rattle.spin_model.proofs.Stepping.{steps-zero}
use Rattle.potts_glass.specs.PackedColours.{colours_of}
use Rattle.potts_glass.specs.Potts.{visit}
use Rattle.potts_glass.specs.PottsStates.{dynamics_on}
use Rattle.potts_glass.specs.SitesBeside.{renewed}
use Rattle.potts_glass.proofs.Sweeps.{pair-more, pair-draws, listed, renewed-visits}
use Rattle.potts_glass.proofs.sweeping.sweep_row.Goals as goal

-- four pairs that fit
room : (size j : ℕ) → j < size / 2 / 4 → 4 * j + 4 ≤ size / 2
room size j less = omega arith

pub fours-init : goal.fours-init
fours-init c = record { colours = λ b h. sym (steps-zero _ _ _); sites = refl }

pub fours-preserved : goal.fours-preserved
fours-preserved c =
    let sweep = c.args.sweep.now in
    let l = sweep.lattice.now in
    let y = c.args.y in
    let z = c.args.z in
    let j = c.fours.j in
    let p = (sweep.class + y + z) % 2 in
    let lawful = c.size-half.ensures.lawful in
    let size = c.size-half.ensures.value in
    let drawn = listed l c.args.draws.now in
    let x : 8 * j + p ≡ 2 * (4 * j) + p = omega arith in
    let more : 4 * j + 4 ≡ 4 * (j + 1) = omega arith in
    let within : 4 * j + 4 ≤ l / 2 = rw size at (room c.size-half.result j c.fours-test.true) in
    record {
      colours = λ b h.
          let d = dynamics_on l sweep.couplings.now sweep.row.now.values b in
          let s = colours_of l c.args.sites.now b in
          c.update_four.ensures.colours b h
          ∙ ap (λ n. renewed d drawn n y z 4 (colours_of l c.fours.sites b)) x
          ∙ ap (renewed d drawn (2 * (4 * j) + p) y z 4) (c.fours.invariant.colours b h)
          ∙ renewed-visits d drawn sweep.class y z (4 * j) 4 s lawful c.requires.class c.requires.row c.requires.plane within
          ∙ ap (λ n. steps (visit d drawn sweep.class) (z * (l * l) + y * l) (2 * n) s) more;
      sites = c.update_four.ensures.sites ∙ c.fours.invariant.sites;
    }

pub pairs-init : goal.pairs-init
pairs-init c =
    let sweep = c.args.sweep.now in
    let l = sweep.lattice.now in
    let all : 4 * c.fours.j ≡ c.size-half.result / 2 / 4 * 4 = omega (arith, c.fours.auto.j-end, c.fours-test.false) in
    record {
      colours = λ b h.
          c.fours.invariant.colours b h
          ∙ ap (λ n. steps (visit (dynamics_on l sweep.couplings.now sweep.row.now.values b) (listed l c.args.draws.now) sweep.class) (c.args.z * (l * l) + c.args.y * l) (2 * n) (colours_of l c.args.sites.now b)) all;
      sites = c.fours.invariant.sites;
    }

pub bounds-draws-first : goal.bounds-draws-first
bounds-draws-first c =
    let size = c.size-half.ensures.value in
    let column = rw size at c.pairs-test.true in
    let within = pair-draws c.args.sweep.now.lattice.now c.args.y c.pairs.k c.size-half.ensures.lawful c.requires.row column in
    rw size (omega (arith, within, c.requires.draws))

pub bounds-draws-first-in-pairs : goal.bounds-draws-first-in-pairs
bounds-draws-first-in-pairs c =
    let size = c.size-half.ensures.value in
    let column = rw size at c.pairs-test.true in
    let within = pair-draws c.args.sweep.now.lattice.now c.args.y c.pairs.k c.size-half.ensures.lawful c.requires.row column in
    rw size (omega (arith, within, c.requires.draws))

pub pairs-preserved : goal.pairs-preserved
pairs-preserved c =
    let l = c.args.sweep.now.lattice.now in
    let size = c.size-half.ensures.value in
    let column = rw size at c.pairs-test.true in
    record {
      colours = λ b h. pair-more (dynamics_on l c.args.sweep.now.couplings.now c.args.sweep.now.row.now.values b) c.args.draws.now c.args.sweep.now.class c.args.y c.args.z c.pairs.k _ _ _ c.size-half.ensures.lawful c.requires.class c.requires.row column
          (c.pairs.invariant.colours b h) (rw size at (c.update_site.ensures.colours b h));
      sites = c.update_site.ensures.sites ∙ c.pairs.invariant.sites;
    }
