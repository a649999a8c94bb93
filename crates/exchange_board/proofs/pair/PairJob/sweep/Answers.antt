-- What was swept, and its exchange.
use Rattle.std.proofs.Common.{◌≡◌, ℕ, sym, ap, refl, ◌∙◌, subst}
use Rattle.std.specs.Arc.{arc_value}
use Rattle.scalar_rule.specs.Plan.{Plan}
use Rattle.scalar_rule.specs.Ragged.{generators}
use Rattle.plane_sweep.specs.Packed.{part_pair}
use Rattle.exchange_board.specs.declared.home.Home.{Home}
use Rattle.exchange_board.specs.declared.origin.Origin.{Origin}
use Rattle.exchange_board.specs.Content.{plan_of, starts}
use Rattle.exchange_board.specs.Meeting.{KeepsPage}
use Rattle.exchange_board.specs.PairKeeps.{IsPairExchange}
use Rattle.exchange_board.specs.Views.{JobView}
use Rattle.exchange_board.proofs.Pairing.{can-trade, swept-pair}
use Rattle.exchange_board.proofs.pair.PairJob.sweep.Goals as goal

pub invariant_of-result : goal.invariant_of-result
invariant_of-result g c =
    let k = c.self.inside in
    let inv = c.self.invariant in
    let low : Home = c.sweep.new.self in
    let high : Home = c.sweep-2.new.self in
    let cold : Home = c.exchange_homes.new.cold in
    let hot : Home = c.exchange_homes.new.hot in
    let low_share : arc_value low.share ≡ arc_value k.low.value.share = ap arc_value c.sweep.ensures.same ∙ ap (λ (h : Home). arc_value h.share) c.deref_mut.ensures.value in
    let high_share : arc_value high.share ≡ arc_value k.high.value.share = ap arc_value c.sweep-2.ensures.same ∙ ap (λ (h : Home). arc_value h.share) c.deref_mut-2.ensures.value in
    let same : arc_value high.share ≡ arc_value low.share = high_share ∙ (inv.same ∙ sym low_share) in
    let wheels : low.wheels ≡ k.low.value.wheels = c.sweep.ensures.wheels ∙ ap (λ (h : Home). h.wheels) c.deref_mut.ensures.value in
    let plan : c.args.plan.now ≡ plan_of (arc_value low.share) = c.requires.plan ∙ (ap (λ (v : JobView). plan_of v.origin) (sym c.self.view_is) ∙ ap plan_of (sym low_share)) in
    let G : Origin → Type 0 = λ o. (i : ℕ) → part_pair k.low.value.wheels ≡ generators (plan_of o) (starts o i) k.slot k.epoch in
    let right : (i : ℕ) → part_pair low.wheels ≡ generators (plan_of (arc_value low.share)) (starts (arc_value low.share) i) k.slot k.epoch = λ i.
    ap part_pair wheels ∙ subst G (sym low_share) inv.generators_are i in
    let X : Home → Home → Plan → Type 0 = λ a b p. IsPairExchange p k.slot a.duo b.duo cold.duo hot.duo a.wheels cold.wheels in
    let first : X low c.deref_mut-4.result.now c.args.plan.now = subst (λ (a : Home). X a c.deref_mut-4.result.now c.args.plan.now) c.deref_mut-3.ensures.value c.exchange_homes.ensures.traded in
    let both : X low high c.args.plan.now = subst (λ (b : Home). X low b c.args.plan.now) c.deref_mut-4.ensures.value first in
    let traded : X low high (plan_of (arc_value low.share)) = subst (X low high) plan both in
    let can = can-trade (plan_of (arc_value low.share)) k.slot k.epoch low high refl inv.turn same c.sweep.ensures.swept c.sweep-2.ensures.swept in
    let low_kept : KeepsPage low cold = subst (λ (a : Home). KeepsPage a cold) c.deref_mut-3.ensures.value c.exchange_homes.ensures.cold in
    let high_kept : KeepsPage high hot = subst (λ (b : Home). KeepsPage b hot) c.deref_mut-4.ensures.value c.exchange_homes.ensures.hot in
    swept-pair _ low high inv.turn same c.sweep.ensures.swept c.sweep-2.ensures.swept right can traded low_kept high_kept
