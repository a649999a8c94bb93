use Rattle.std.proofs.Common.{rules, ◌≡◌, ℕ, List, length, ap, sym, subst, ◌∙◌}
use Rattle.spin_model.specs.Lattice.{half_plane}
use Rattle.spin_model.specs.Stream.{draws, advanced}
use Rattle.spin_model.proofs.Tables.{length-table}
use Rattle.scalar_rule.proofs.PlaneSweeps.{written_over}
use Rattle.plane_sweep.specs.PlaneSweep.{SweepsWords}
use Rattle.plane_sweep.proofs.SweptPlanes.{sweeps-plane}
use Rattle.plane_sweep.proofs.duos.sweep_plane.Goals as goal

pub returns-clause-first : goal.returns-clause-first
returns-clause-first g c =
    let couplings = c.args.sites.now.couplings.now in
    let n = half_plane couplings.size in
    let other = c.args.others.now.first.now in
    let old = c.args.first.now in
    let long : length c.fill.new.out ≡ n = search rules in
    let drawn = c.fill.ensures.drawn in
    let count = sym (ap length drawn ∙ length-table _ _) ∙ long in
    let S : List ℕ → Type 0 = λ words. SweepsWords couplings other c.args.sites.now.rule.now c.fill.new.out c.args.sites.now.colour c.args.sites.now.z n words c.sweep_words_of_duo.new.first in
    let swept = subst S c.as_mut_slice.ensures.value c.sweep_words_of_duo.ensures.first in
    let made = sweeps-plane couplings other c.args.sites.now.rule.now c.args.sites.now.colour c.args.sites.now.z old c.sweep_words_of_duo.new.first c.fill.new.self c.fill.new.out c.requires.first
    (drawn ∙ ap (draws old.wheel) count) (c.fill.ensures.moved ∙ ap (advanced old.wheel) count) swept in
    rw (written_over old.words c.sweep_words_of_duo.new.first swept.sized) made

pub returns-clause-second : goal.returns-clause-second
returns-clause-second g c =
    let couplings = c.args.sites.now.couplings.now in
    let n = half_plane couplings.size in
    let other = c.args.others.now.second.now in
    let old = c.args.second.now in
    let long : length c.fill-2.new.out ≡ n = search rules in
    let drawn = c.fill-2.ensures.drawn in
    let count = sym (ap length drawn ∙ length-table _ _) ∙ long in
    let S : List ℕ → Type 0 = λ words. SweepsWords couplings other c.args.sites.now.rule.now c.fill-2.new.out c.args.sites.now.colour c.args.sites.now.z n words c.sweep_words_of_duo.new.second in
    let swept = subst S c.as_mut_slice-2.ensures.value c.sweep_words_of_duo.ensures.second in
    let made = sweeps-plane couplings other c.args.sites.now.rule.now c.args.sites.now.colour c.args.sites.now.z old c.sweep_words_of_duo.new.second c.fill-2.new.self c.fill-2.new.out c.requires.second
    (drawn ∙ ap (draws old.wheel) count) (c.fill-2.ensures.moved ∙ ap (advanced old.wheel) count) swept in
    rw (written_over old.words c.sweep_words_of_duo.new.second swept.sized) made
