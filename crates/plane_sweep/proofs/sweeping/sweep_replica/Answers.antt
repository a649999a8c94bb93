use Rattle.std.proofs.Common.{ℕ, ◌*◌, List, All, length, ap, sym, subst, refl, ◌∙◌}
use Rattle.coupling_set.specs.CouplingWords.{CouplingsView}
use Rattle.scalar_rule.proofs.PlaneSweeps.{written_over}
use Rattle.plane_sweep.specs.Packed.{FitsPlane, FitsReplica}
use Rattle.plane_sweep.specs.PlaneSweep.{SweepsColours}
use Rattle.plane_sweep.specs.declared.replica.Plane.{Plane}
use Rattle.plane_sweep.proofs.ColourSweeps.{swept-part, swept-fits}
use Rattle.plane_sweep.proofs.sweeping.sweep_replica.Goals as goal

pub sweep_colours-requires-clause-size : goal.sweep_colours-requires-clause-size
sweep_colours-requires-clause-size g c κs within =
    c.size-size.ensures.value ∙ c.lattice.ensures.value ∙ sym c.lattice.ensures.lawful.lattice ∙ sym (ap (λ (j : CouplingsView). j.size) c.couplings.ensures.value)

pub sweep_colours-requires-clause-planes : goal.sweep_colours-requires-clause-planes
sweep_colours-requires-clause-planes g c κs within =
    let side = c.lattice.ensures.lawful.lattice in
    let same = ap (λ (j : CouplingsView). j.size) c.couplings.ensures.value in
    let P : List Plane → Type 0 = λ xs. All (FitsPlane c.couplings.result.now.size) xs in
    let Q : ℕ → Type 0 = λ n. All (FitsPlane n) c.args.replica.now.planes in
    record {
      count = ap length c.as_mut_slice-planes.ensures.value ∙ c.requires.replica.count ∙ ap (λ n. 2 * n) (sym side ∙ sym same);
      fit = subst P (sym c.as_mut_slice-planes.ensures.value) (subst Q (sym side ∙ sym same) c.requires.replica.planes);
    }

pub returns-clause-swept : goal.returns-clause-swept
returns-clause-swept g c = λ slot b is below.
    let plan = c.args.plan.now in
    let lawful = c.lattice.ensures.lawful in
    let rule = c.args.rule.now in
    let S : CouplingsView → Type 0 = λ j. SweepsColours j rule c.as_mut_slice-planes.result.now c.sweep_colours.new.planes in
    let T : List Plane → Type 0 = λ xs. SweepsColours plan.couplings rule xs c.sweep_colours.new.planes in
    let swept = subst T c.as_mut_slice-planes.ensures.value (subst S c.couplings.ensures.value c.sweep_colours.ensures) in
    rw (written_over c.args.replica.now.planes c.sweep_colours.new.planes swept.sized)
    (swept-part plan slot b rule c.args.replica.now _ lawful.couplings.lawful lawful.lattice below (c.requires.replica.count ∙ ap (λ n. 2 * n) (sym lawful.lattice)) is refl swept)

pub returns-clause-fits : goal.returns-clause-fits
returns-clause-fits g c =
    let plan = c.args.plan.now in
    let lawful = c.lattice.ensures.lawful in
    let rule = c.args.rule.now in
    let S : CouplingsView → Type 0 = λ j. SweepsColours j rule c.as_mut_slice-planes.result.now c.sweep_colours.new.planes in
    let T : List Plane → Type 0 = λ xs. SweepsColours plan.couplings rule xs c.sweep_colours.new.planes in
    let swept = subst T c.as_mut_slice-planes.ensures.value (subst S c.couplings.ensures.value c.sweep_colours.ensures) in
    let F : ℕ → Type 0 = λ n. FitsReplica n c.args.replica.now in
    let G : ℕ → Type 0 = λ n. FitsReplica n (record { planes = c.sweep_colours.new.planes; labels = c.args.replica.now.labels }) in
    rw (written_over c.args.replica.now.planes c.sweep_colours.new.planes swept.sized)
    (subst G lawful.lattice (swept-fits plan.couplings rule c.args.replica.now _ (subst F (sym lawful.lattice) c.requires.replica) refl swept))
