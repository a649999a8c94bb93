-- What an epoch that asks for nothing leaves: a slot without a partner, which is not recorded.
use Rattle.std.proofs.Common.{◌≡◌, ◌<◌, ℕ, false, sym, ap, ◌∙◌, subst}
use Rattle.std.specs.Prelude.{IfSome}
use Rattle.std.specs.Arc.{arc_value}
use Rattle.std.proofs.lemmas.Bool.{false≢true}
use Rattle.scalar_rule.specs.Epoch.{has_partner, swept_slot}
use Rattle.scalar_rule.specs.Plan.{Plan, slots_of}
use Rattle.scalar_rule.specs.Records.{is_recorded}
use Rattle.scalar_rule.proofs.UnevenContents.{arrived-swept}
use Rattle.plane_sweep.specs.Packed.{part_slot, FitsDuo}
use Rattle.exchange_board.specs.declared.origin.Origin.{Origin}
use Rattle.exchange_board.specs.Content.{plan_of, slots_in, starts}
use Rattle.slot_steps.specs.Totals.{AreTotals}
use Rattle.exchange_board.proofs.home.Home.sweep.Goals as goal
use Rattle.exchange_board.proofs.home.Home.sweep.Goals.{then-is_recorded, else-is_recorded}

pub returns-else-has_partner-clause-swept : goal.returns-else-has_partner-clause-swept
returns-else-has_partner-clause-swept g c =
    let h = c.args.self.now in
    let o : Origin = arc_value h.share in
    let t : ℕ = c.args.at.slot in
    let e : ℕ = c.args.at.epoch in
    let rests = c.requires.rests in
    let duo = c.sweep_slot.new.duo in
    let told : (has_partner (slots_in o) t e ≡ false) × (is_recorded o.window.every e ≡ false) = elim c.if-is_recorded.branch [
      | then-is_recorded w ↦ absurd (false≢true (sym c.if-has_partner.false ∙ (w.value-is ∙ w.if-is_recorded.true)))
      | else-is_recorded w ↦ (
        subst (λ n. has_partner n t e ≡ false) (w.slots.ensures.value ∙ ap slots_of c.requires.plan) (sym w.has_partner.ensures ∙ (sym w.value-is ∙ c.if-has_partner.false)),
        rw c.deref.ensures at (sym c.is_recorded-is_recorded.ensures ∙ w.if-is_recorded.false),
      )
    ] in
    let F : Plan → Type 0 = λ p. FitsDuo p.size duo in
    let S : Plan → Type 0 = λ p. (b : ℕ) → b < 64 → part_slot p.size b duo ≡ swept_slot p b t (part_slot p.size b h.duo) in
    let swept : S (plan_of o) = subst S c.requires.plan c.sweep_slot.ensures.swept in
    record {
      known = rests.known;
      every = rests.every;
      later = rests.later;
      fits = subst F c.requires.plan c.sweep_slot.ensures.fits;
      right = λ b small. swept b small ∙ (ap (swept_slot (plan_of o) b t) (rests.right b small) ∙ sym (arrived-swept (plan_of o) (starts o b) e t rests.later));
      totals = subst (λ x. IfSome x (AreTotals (plan_of o) duo)) (sym rests.unsummed) tt;
      summed = λ has. absurd (false≢true (sym told.0 ∙ has));
      records = λ on. absurd (false≢true (sym told.1 ∙ on));
    }
