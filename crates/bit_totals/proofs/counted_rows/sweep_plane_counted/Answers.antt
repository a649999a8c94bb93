use Rattle.std.proofs.Common.{rules, ◌≡◌, ℕ, List, length, ap, sym, subst, ◌∙◌}
use Rattle.spin_model.specs.Lattice.{half_plane}
use Rattle.spin_model.specs.Stream.{draws, advanced}
use Rattle.spin_model.proofs.Tables.{length-table}
use Rattle.scalar_rule.proofs.PlaneSweeps.{written_over}
use Rattle.plane_sweep.specs.PlaneSweep.{SweepsWords}
use Rattle.plane_sweep.proofs.SweptPlanes.{sweeps-plane}
use Rattle.bit_totals.proofs.counted_rows.sweep_plane_counted.Goals as goal

pub returns-clause-swept : goal.returns-clause-swept
returns-clause-swept g c =
    let sites = c.args.sites.now in
    let couplings = sites.couplings.now in
    let rule = sites.rule.now in
    let n = half_plane couplings.size in
    let old = c.args.plane.now in
    let long : length c.fill.new.out ≡ n = search rules in
    let drawn = c.fill.ensures.drawn in
    let count = sym (ap length drawn ∙ length-table _ _) ∙ long in
    let S : List ℕ → Type 0 = λ words. SweepsWords couplings c.args.other.now rule c.fill.new.out sites.colour sites.z n words c.sweep_words_counted.new.own in
    let swept = subst S c.as_mut_slice.ensures.value c.sweep_words_counted.ensures.swept in
    let made = sweeps-plane couplings c.args.other.now rule sites.colour sites.z old c.sweep_words_counted.new.own c.fill.new.self c.fill.new.out c.requires.own
    (drawn ∙ ap (draws old.wheel) count) (c.fill.ensures.moved ∙ ap (advanced old.wheel) count) swept in
    rw (written_over old.words c.sweep_words_counted.new.own swept.sized) made

pub returns-clause-counted : goal.returns-clause-counted
returns-clause-counted g c =
    let sites = c.args.sites.now in
    let couplings = sites.couplings.now in
    let rule = sites.rule.now in
    let n = half_plane couplings.size in
    let old = c.args.plane.now in
    let S : List ℕ → Type 0 = λ words. SweepsWords couplings c.args.other.now rule c.fill.new.out sites.colour sites.z n words c.sweep_words_counted.new.own in
    let swept = subst S c.as_mut_slice.ensures.value c.sweep_words_counted.ensures.swept in
    rw (written_over old.words c.sweep_words_counted.new.own swept.sized) c.sweep_words_counted.ensures.counted
