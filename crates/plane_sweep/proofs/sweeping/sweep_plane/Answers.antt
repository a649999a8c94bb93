use Rattle.std.proofs.Common.{rules, ◌≡◌, ℕ, List, length, ap, sym, subst, ◌∙◌}
use Rattle.spin_model.specs.Lattice.{half_plane}
use Rattle.spin_model.specs.Stream.{draws, advanced}
use Rattle.spin_model.proofs.Tables.{length-table}
use Rattle.scalar_rule.proofs.PlaneSweeps.{written_over}
use Rattle.plane_sweep.specs.PlaneSweep.{SweepsWords}
use Rattle.plane_sweep.proofs.SweptPlanes.{sweeps-plane}
use Rattle.plane_sweep.proofs.sweeping.sweep_plane.Goals as goal

pub returns : goal.returns
returns g c =
    let couplings = c.args.sites.now.couplings.now in
    let n = half_plane couplings.size in
    let old = c.args.plane.now in
    let long : length c.fill.new.out ≡ n = search rules in
    let drawn = c.fill.ensures.drawn in
    let count = sym (ap length drawn ∙ length-table _ _) ∙ long in
    let S : List ℕ → Type 0 = λ words. SweepsWords couplings c.args.other.now c.args.sites.now.rule.now c.fill.new.out c.args.sites.now.colour c.args.sites.now.z n words c.sweep_words.new.own in
    let swept = subst S c.as_mut_slice.ensures.value c.sweep_words.ensures in
    let made = sweeps-plane couplings c.args.other.now c.args.sites.now.rule.now c.args.sites.now.colour c.args.sites.now.z old c.sweep_words.new.own c.fill.new.self c.fill.new.out c.requires.own
    (drawn ∙ ap (draws old.wheel) count) (c.fill.ensures.moved ∙ ap (advanced old.wheel) count) swept in
    rw (written_over old.words c.sweep_words.new.own swept.sized) made
