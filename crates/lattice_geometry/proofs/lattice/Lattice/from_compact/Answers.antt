use Rattle.std.proofs.Common.{◌≡◌, arith, refl, subst, sym, ap, ◌∙◌}
use Rattle.spin_model.specs.Lattice.{IsLawfulSize, compact, from_compact}
use Rattle.spin_model.proofs.CompactOrder.{place-colour-below, place-plane-below, place-row-below, compact-from_compact, from_compact-compact}
use Rattle.lattice_geometry.proofs.lattice.Lattice.from_compact.Goals as goal

pub overflow_add-x : goal.overflow_add-x
overflow_add-x c =
    let colour = place-colour-below c.self.inside.size c.args.place c.self.invariant (rw c.self.view_is c.requires) in
    let row = place-row-below c.self.inside.size c.args.place c.self.invariant in
    omega arith

pub overflow_add-x-2 : goal.overflow_add-x-2
overflow_add-x-2 c =
    let colour = place-colour-below c.self.inside.size c.args.place c.self.invariant (rw c.self.view_is c.requires) in
    let row = place-row-below c.self.inside.size c.args.place c.self.invariant in
    let plane = place-plane-below c.self.inside.size c.args.place c.self.invariant in
    omega arith

pub returns-clause-value : goal.returns-clause-value
unfolding from_compact
returns-clause-value c = c.site.ensures.value ∙ rw c.self.view_is refl

pub returns-clause-place : goal.returns-clause-place
returns-clause-place c =
    let value : c.site.result ≡ from_compact c.args.self.now c.args.place = returns-clause-value c in
    ap (compact c.args.self.now) value ∙ compact-from_compact c.args.self.now c.args.place (subst IsLawfulSize c.self.view_is c.self.invariant) c.requires

pub returns-clause-only : goal.returns-clause-only
returns-clause-only c = λ site within here.
    let value : c.site.result ≡ from_compact c.args.self.now c.args.place = returns-clause-value c in
    let lawful : IsLawfulSize c.args.self.now = subst IsLawfulSize c.self.view_is c.self.invariant in
    sym (from_compact-compact c.args.self.now site lawful within) ∙ ap (from_compact c.args.self.now) here ∙ sym value
