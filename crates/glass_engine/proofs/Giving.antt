-- What a seat that asks the board has afterwards.
use Rattle.std.proofs.Common.{◌≡◌, ◌⊎◌, ℕ, ◌+◌, ◌==◌, true, List, [], ◌∷◌, Some, inl, inr, refl, sym, ap, ◌∙◌, subst, arith}
use Rattle.std.proofs.lemmas.Bool.{eq-eqb, ne_eqb}
use Rattle.std.specs.Prelude.{Option, IsSomeAnd, false}
use Rattle.atomic_table.specs.Seated.{TableId}
use Rattle.scalar_rule.specs.Plan.{Plan}
use Rattle.turn_cell.specs.Seats.{seat_view, IsSeatOf}
use Rattle.turn_cell.specs.Sums.{times, without}
use Rattle.turn_cell.proofs.Adding.{at_same, at_other}
use Rattle.turn_cell.specs.declared.view.View.{View}
use Rattle.exchange_board.specs.declared.board.Next.{Next}
use Rattle.exchange_board.specs.declared.board.Next.TheVariants as nexts
use Rattle.exchange_board.specs.declared.board.NextPair.{NextPair}
use Rattle.exchange_board.specs.declared.board.NextPair.TheVariants as pairs
use Rattle.exchange_board.specs.declared.origin.Origin.{Origin}
use Rattle.exchange_board.specs.Content.{plan_of}
use Rattle.shared_board.specs.Turns.{IsTurn, TakesSlot, TakesPairOrSlot, ReturnsPairAndTakes}
use Rattle.shared_board.specs.Words.{IsFinished, IsStopped}
use Rattle.glass_engine.specs.Working.{Seat, IsFreeFor, IsGiven, IsPairGiven, HasLeft}

module _ (id : TableId) (plan : Plan) (v : View Origin) (q : Seat) (own : IsSeatOf id q) (none : v.out ≡ []) (right : IsSomeAnd v.base (λ o. plan_of o ≡ plan)) where
  free-after : (found : List ℕ) (items : List (ℕ × ℕ) → List (ℕ × ℕ)) → IsTurn v (seat_view q) found (items v.out) → IsFreeFor id plan (items []) q
  free-after found items turn =
      let B : Option Origin → Type 0 = λ b. IsSomeAnd b (λ o. plan_of o ≡ plan) in
      record {
        own = own;
        free = ap (λ (u : View Origin). u.holding) turn.view;
        work = ap (λ (u : View Origin). u.out) turn.view ∙ ap items none;
        base = subst B (sym (ap (λ (u : View Origin). u.base) turn.view)) right;
      }

  left-after : (found : List ℕ) (out : List (ℕ × ℕ)) → IsTurn v (seat_view q) found out
      → ((o : Origin) → v.base ≡ Some o → IsFinished o (seat_view q).seen ⊎ IsStopped o (seat_view q).seen) → HasLeft (seat_view q)
  left-after found out turn over =
      let is : (seat_view q).base ≡ v.base = ap (λ (u : View Origin). u.base) turn.view in
      record {
        sized = turn.sized ∙ sym (ap (λ (u : View Origin). u.places) turn.view);
        over = λ o base. over o (sym is ∙ base);
      }

  base-after : (found : List ℕ) (out : List (ℕ × ℕ)) → IsTurn v (seat_view q) found out → (seat_view q).base ≡ v.base
  base-after found out turn = ap (λ (u : View Origin). u.base) turn.view

  pub given-slot : (next : Next) → TakesSlot v (seat_view q) next → IsGiven id plan next q
  given-slot (nexts.Job j) t = (free-after _ (λ l. (j.slot, j.epoch) ∷ l) t.turn, base-after _ _ t.turn ∙ t.base)
  given-slot nexts.Nothing t = free-after _ (λ l. l) t.turn
  given-slot nexts.Finished t = (free-after _ (λ l. l) t.turn, left-after _ _ t.turn (λ o base. inl (t.says o base)))
  given-slot nexts.Stopped t = (free-after _ (λ l. l) t.turn, left-after _ _ t.turn (λ o base. inr (t.says o base)))

  pub given : (next : NextPair) → TakesPairOrSlot v (seat_view q) next → IsPairGiven id plan next q
  given (pairs.Pair j) t = (free-after _ (λ l. (j.slot + 1, j.epoch) ∷ (j.slot, j.epoch) ∷ l) t.turn, base-after _ _ t.turn ∙ t.base)
  given (pairs.Single next) t = given-slot next t.0

-- two partners in a seat's hands
abbrev pub partners : ℕ → ℕ → List (ℕ × ℕ)
partners t e = (t + 1, e) ∷ (t, e) ∷ []

-- each is there once
pub low-once : (t e s : ℕ) (out : List (ℕ × ℕ)) → s ≡ t → out ≡ partners t e → times s out ≡ 1
low-once t e s out at is =
    let other = at_other t (t + 1, e) (λ z. omega arith) in
    let here = at_same t (t, e) refl in
    let once : times t (partners t e) ≡ 1 = omega arith in
    rw at (rw is once)

pub high-once : (t e s : ℕ) (out : List (ℕ × ℕ)) → s ≡ t → out ≡ partners t e → times (s + 1) out ≡ 1
high-once t e s out at is =
    let other = at_other (t + 1) (t, e) (λ z. omega arith) in
    let here = at_same (t + 1) (t + 1, e) refl in
    let once : times (t + 1) (partners t e) ≡ 1 = omega arith in
    rw at (rw is once)

-- and none is left once both are back
none-left : (t e s : ℕ) (out : List (ℕ × ℕ)) → s ≡ t → out ≡ partners t e → without (s + 1) (without s out) ≡ []
none-left t e s out at is =
    let other : (t + 1 == t) ≡ false = ne_eqb (t + 1) t (λ z. omega arith) in
    let here : (t == t) ≡ true = eq-eqb t t refl in
    let last : (t + 1 == t + 1) ≡ true = eq-eqb (t + 1) (t + 1) refl in
    let none : without (t + 1) (without t (partners t e)) ≡ [] = rw other (rw here (rw last refl)) in
    rw at (rw is none)

-- what a seat has that handed back the only two that it had
pub given-next : (id : TableId) (plan : Plan) (v : View Origin) (q : Seat) (t e s n : ℕ) (next : NextPair) → IsSeatOf id q → s ≡ t → v.out ≡ partners t e
    → IsSomeAnd v.base (λ o. plan_of o ≡ plan) → ReturnsPairAndTakes v (seat_view q) s n next → IsPairGiven id plan next q
given-next id plan v q t e s n next own at is right turned =
    let u = turned.between in
    let view = turned.returned.turn.view in
    let B : Option Origin → Type 0 = λ b. IsSomeAnd b (λ o. plan_of o ≡ plan) in
    let none : u.out ≡ [] = ap (λ (w : View Origin). w.out) view ∙ none-left t e s v.out at is in
    given id plan (record u { turns = v.turns }) q own none (subst B (sym (ap (λ (w : View Origin). w.base) view)) right) next turned.taken
