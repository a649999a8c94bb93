-- Whatever a hand-back comes to, the seat has its item no more.
use Rattle.std.proofs.Common.{◌≡◌, ℕ, List, [], ◌∷◌, true, false, ◌==◌, refl, sym, ap, ◌∙◌, subst}
use Rattle.std.specs.Prelude.{Option, IsSomeAnd}
use Rattle.std.proofs.lemmas.Bool.{eq-eqb}
use Rattle.turn_cell.specs.Sums.{without}
use Rattle.turn_cell.specs.Seats.{seat_view}
use Rattle.turn_cell.specs.declared.view.View.{View}
use Rattle.exchange_board.specs.Content.{plan_of}
use Rattle.exchange_board.specs.Views.{JobView}
use Rattle.exchange_board.specs.declared.origin.Origin.{Origin}
use Rattle.exchange_board.specs.declared.arrival.Arrival.{Arrival}
use Rattle.exchange_board.specs.declared.arrival.Arrival.TheVariants as arrivals
use Rattle.shared_board.specs.Turns.{IsTurn, ReturnsSlot}
use Rattle.glass_engine.proofs.workers.bring.Goals as goal

-- what a turn leaves
left : (v w : View Origin) (found : List ℕ) (out : List (ℕ × ℕ)) → IsTurn v w found out → (w.holding ≡ false) × (w.out ≡ out) × (w.base ≡ v.base)
left v w found out turn = (
  ap (λ (u : View Origin). u.holding) turn.view,
  ap (λ (u : View Origin). u.out) turn.view,
  ap (λ (u : View Origin). u.base) turn.view,
)

returned : (v w : View Origin) (t e : ℕ) (came : Arrival) → ReturnsSlot v w t e came → (w.holding ≡ false) × (w.out ≡ without t v.out) × (w.base ≡ v.base)
returned v w t e arrivals.Waiting r = left v w _ _ r.turn
returned v w t e (arrivals.Settled pair) r = left v w _ _ r.turn
returned v w t e arrivals.Alone r = left v w _ _ r.turn

none-left : (t s e : ℕ) → t ≡ s → without t ((s, e) ∷ []) ≡ []
none-left t s e same = let here : (s == t) ≡ true = eq-eqb s t (sym same) in rw here refl

pub returns-clause-rest : goal.returns-clause-rest
returns-clause-rest g c =
    let old = seat_view c.args.seat.now in
    let w = seat_view c.settle.new.pass in
    let job = c.args.job in
    let now = returned _ w _ _ c.settle.result c.settle.ensures.returned in
    let B : Option Origin → Type 0 = λ b. IsSomeAnd b (λ o. plan_of o ≡ c.args.shared.now.plan.now) in
    record {
      own = c.settle.ensures.own;
      free = now.0;
      work = now.1 ∙ ap (without c.sweep-swept.result.slot) c.requires.own.0.work ∙ none-left _ job.slot job.epoch (ap (λ (j : JobView). j.slot) c.sweep-swept.ensures);
      base = subst B (sym now.2) c.requires.own.0.base;
    }
