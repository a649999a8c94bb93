use Rattle.std.proofs.Common.{ℕ, ◌*◌, List, All, length, ap, sym, subst, refl, ◌∙◌}
use Rattle.coupling_set.specs.CouplingWords.{CouplingsView}
use Rattle.scalar_rule.proofs.PlaneSweeps.{written_over}
use Rattle.plane_sweep.specs.Packed.{FitsPlane, FitsReplica}
use Rattle.plane_sweep.specs.PlaneSweep.{SweepsColours}
use Rattle.plane_sweep.specs.declared.replica.Plane.{Plane}
use Rattle.plane_sweep.proofs.ColourSweeps.{swept-part, swept-fits}
use Rattle.bit_totals.proofs.duo_sweep.sweep_duo.Goals as goal

pub sweep_colours-requires-clause-size : goal.sweep_colours-requires-clause-size
sweep_colours-requires-clause-size c =
    c.size-size.ensures.value ∙ c.lattice.ensures.value ∙ sym c.lattice.ensures.lawful.lattice ∙ sym (ap (λ (j : CouplingsView). j.size) c.couplings.ensures.value)

pub sweep_colours-requires-clause-first : goal.sweep_colours-requires-clause-first
sweep_colours-requires-clause-first c =
    let side = c.lattice.ensures.lawful.lattice in
    let same = ap (λ (j : CouplingsView). j.size) c.couplings.ensures.value in
    let P : List Plane → Type 0 = λ xs. All (FitsPlane c.couplings.result.now.size) xs in
    let Q : ℕ → Type 0 = λ n. All (FitsPlane n) c.args.duo.now.first.planes in
    record {
      count = ap length c.as_mut_slice-first.ensures.value ∙ c.requires.duo.first.count ∙ ap (λ n. 2 * n) (sym side ∙ sym same);
      fit = subst P (sym c.as_mut_slice-first.ensures.value) (subst Q (sym side ∙ sym same) c.requires.duo.first.planes);
    }

pub sweep_colours-requires-clause-second : goal.sweep_colours-requires-clause-second
sweep_colours-requires-clause-second c =
    let side = c.lattice.ensures.lawful.lattice in
    let same = ap (λ (j : CouplingsView). j.size) c.couplings.ensures.value in
    let P : List Plane → Type 0 = λ xs. All (FitsPlane c.couplings.result.now.size) xs in
    let Q : ℕ → Type 0 = λ n. All (FitsPlane n) c.args.duo.now.second.planes in
    record {
      count = ap length c.as_mut_slice-second.ensures.value ∙ c.requires.duo.second.count ∙ ap (λ n. 2 * n) (sym side ∙ sym same);
      fit = subst P (sym c.as_mut_slice-second.ensures.value) (subst Q (sym side ∙ sym same) c.requires.duo.second.planes);
    }

pub returns-clause-swept_first : goal.returns-clause-swept_first
returns-clause-swept_first c = λ b below.
    let plan = c.args.plan.now in
    let old = c.args.duo.now.first in
    let new = c.sweep_colours.new.first in
    let lawful = c.lattice.ensures.lawful in
    let rule = c.rule_of_slot-rule.result in
    let S : CouplingsView → Type 0 = λ j. SweepsColours j rule c.as_mut_slice-first.result.now new in
    let T : List Plane → Type 0 = λ xs. SweepsColours plan.couplings rule xs new in
    let swept = subst T c.as_mut_slice-first.ensures.value (subst S c.couplings.ensures.value c.sweep_colours.ensures.first.swept) in
    rw (written_over old.planes new swept.sized)
    (swept-part plan c.args.slot b rule old _ lawful.couplings.lawful lawful.lattice below (c.requires.duo.first.count ∙ ap (λ n. 2 * n) (sym lawful.lattice)) c.rule_of_slot-rule.ensures refl swept)

pub returns-clause-swept_second : goal.returns-clause-swept_second
returns-clause-swept_second c = λ b below.
    let plan = c.args.plan.now in
    let old = c.args.duo.now.second in
    let new = c.sweep_colours.new.second in
    let lawful = c.lattice.ensures.lawful in
    let rule = c.rule_of_slot-rule.result in
    let S : CouplingsView → Type 0 = λ j. SweepsColours j rule c.as_mut_slice-second.result.now new in
    let T : List Plane → Type 0 = λ xs. SweepsColours plan.couplings rule xs new in
    let swept = subst T c.as_mut_slice-second.ensures.value (subst S c.couplings.ensures.value c.sweep_colours.ensures.second.swept) in
    rw (written_over old.planes new swept.sized)
    (swept-part plan c.args.slot b rule old _ lawful.couplings.lawful lawful.lattice below (c.requires.duo.second.count ∙ ap (λ n. 2 * n) (sym lawful.lattice)) c.rule_of_slot-rule.ensures refl swept)

pub returns-clause-fits : goal.returns-clause-fits
returns-clause-fits c =
    let plan = c.args.plan.now in
    let lawful = c.lattice.ensures.lawful in
    let rule = c.rule_of_slot-rule.result in
    let old_first = c.args.duo.now.first in
    let new_first = c.sweep_colours.new.first in
    let S_first : CouplingsView → Type 0 = λ j. SweepsColours j rule c.as_mut_slice-first.result.now new_first in
    let T_first : List Plane → Type 0 = λ xs. SweepsColours plan.couplings rule xs new_first in
    let swept_first = subst T_first c.as_mut_slice-first.ensures.value (subst S_first c.couplings.ensures.value c.sweep_colours.ensures.first.swept) in
    let F_first : ℕ → Type 0 = λ n. FitsReplica n old_first in
    let G_first : ℕ → Type 0 = λ n. FitsReplica n (record { planes = new_first; labels = old_first.labels }) in
    let fits_first = subst G_first lawful.lattice (swept-fits plan.couplings rule old_first (record { planes = new_first; labels = old_first.labels }) (subst F_first (sym lawful.lattice) c.requires.duo.first) refl swept_first) in
    let old_second = c.args.duo.now.second in
    let new_second = c.sweep_colours.new.second in
    let S_second : CouplingsView → Type 0 = λ j. SweepsColours j rule c.as_mut_slice-second.result.now new_second in
    let T_second : List Plane → Type 0 = λ xs. SweepsColours plan.couplings rule xs new_second in
    let swept_second = subst T_second c.as_mut_slice-second.ensures.value (subst S_second c.couplings.ensures.value c.sweep_colours.ensures.second.swept) in
    let F_second : ℕ → Type 0 = λ n. FitsReplica n old_second in
    let G_second : ℕ → Type 0 = λ n. FitsReplica n (record { planes = new_second; labels = old_second.labels }) in
    let fits_second = subst G_second lawful.lattice (swept-fits plan.couplings rule old_second (record { planes = new_second; labels = old_second.labels }) (subst F_second (sym lawful.lattice) c.requires.duo.second) refl swept_second) in
    rw (written_over old_first.planes new_first swept_first.sized, written_over old_second.planes new_second swept_second.sized) (record { first = fits_first; second = fits_second })
