-- Two seats, turn by turn: what each of them then is, and which slots they have in work.
use Rattle.std.proofs.Common.{arith, ◌≡◌, ◌≢◌, inl, inr, ℕ, ◌+◌, Bool, true, false, cond, eq-eqb, ne_eqb, List, [], ◌∷◌, Some, length, refl, sym, ap, ◌∙◌, subst}
use mathlib.Core.Logic.{dite}
use native.Mathlib.Decide.{ℕ_discrete}
use Rattle.turn_cell.specs.Seats.{seat_view}
use Rattle.turn_cell.specs.Sums.{without}
use Rattle.exchange_board.specs.Views.{JobView}
use Rattle.shared_board.specs.Turns.{IsAmong}
use Rattle.shared_board_tests.specs.Hands.{Seat, IsAfter, seat_of, HasInWork, AreEach, AreHeld, AreOther}

-- items of a list, one of which goes
without_yes : (t : ℕ) (x : ℕ × ℕ) (xs : List (ℕ × ℕ)) → x.0 ≡ t → without t (x ∷ xs) ≡ xs
without_yes t x xs e = ap (λ b. cond b xs (x ∷ without t xs)) (eq-eqb x.0 t e)

without_no : (t : ℕ) (x : ℕ × ℕ) (xs : List (ℕ × ℕ)) → x.0 ≢ t → without t (x ∷ xs) ≡ x ∷ without t xs
without_no t x xs ne = ap (λ b. cond b xs (x ∷ without t xs)) (ne_eqb x.0 t ne)

among-without : (t s e : ℕ) (out : List (ℕ × ℕ)) → s ≢ t → IsAmong (s, e) out → IsAmong (s, e) (without t out)
among-without t s e [] other is = is
among-without t s e (y ∷ ys) other is =
    let M : List (ℕ × ℕ) → Type 0 = λ l. IsAmong (s, e) l in
    elim is [
      | inl here ↦ let at : s ≡ y.0 = ap (λ (x : ℕ × ℕ). x.0) here in subst M (sym (without_no t y ys (λ z. other (at ∙ z)))) (inl here)
      | inr there ↦ dite (ℕ_discrete y.0 t)
          (λ same. subst M (sym (without_yes t y ys same)) there)
          (λ ne. subst M (sym (without_no t y ys ne)) (inr (among-without t s e ys other there)))
    ]

length-without : (t e : ℕ) (out : List (ℕ × ℕ)) → IsAmong (t, e) out → length (without t out) + 1 ≡ length out
length-without t e [] is = absurd is
length-without t e (y ∷ ys) is =
    dite (ℕ_discrete y.0 t)
    (λ same. let gone = ap length (without_yes t y ys same) in omega arith)
    (λ ne. elim is [
      | inl here ↦ absurd (ne (sym (ap (λ (x : ℕ × ℕ). x.0) here)))
      | inr there ↦ let less = length-without t e ys there in let stays = ap length (without_no t y ys ne) in omega arith
    ])

-- a slot stays in work with a seat
has-after : (p r : Seat) (out : List (ℕ × ℕ)) (j : JobView) → IsAfter (seat_view p) (seat_view r) out
    → (IsAmong (j.slot, j.epoch) (seat_view p).out → IsAmong (j.slot, j.epoch) out) → HasInWork j p → HasInWork j r
has-after p r out j after stays has =
    let M : List (ℕ × ℕ) → Type 0 = λ l. IsAmong (j.slot, j.epoch) l in
    record { work = subst M (sym after.1) (stays has.work); base = after.4 ∙ has.base }

-- so do all of them, where none goes
each-after : (p q r s : Seat) (hs : List (Bool × JobView)) → ((b : Bool) (j : JobView) → HasInWork j (seat_of b p q) → HasInWork j (seat_of b r s))
    → AreEach hs p q → AreEach hs r s
each-after p q r s [] keeps each = tt
each-after p q r s (h ∷ hs) keeps each = (keeps h.0 h.1 each.0, each-after p q r s hs keeps each.1)

-- and where slot t goes, the others
others-after : (p q r s : Seat) (t : ℕ) (hs : List (Bool × JobView)) → ((b : Bool) (j : JobView) → j.slot ≢ t → HasInWork j (seat_of b p q) → HasInWork j (seat_of b r s))
    → AreOther t hs → AreEach hs p q → AreEach hs r s
others-after p q r s t [] keeps other each = tt
others-after p q r s t (h ∷ hs) keeps other each = (keeps h.0 h.1 other.0 each.0, others-after p q r s t hs keeps other.1 each.1)

-- a seat that changes no work
stays-first : (p q r : Seat) (out : List (ℕ × ℕ)) → IsAfter (seat_view p) (seat_view r) out → ((s e : ℕ) → IsAmong (s, e) (seat_view p).out → IsAmong (s, e) out)
    → (b : Bool) (j : JobView) → HasInWork j (seat_of b p q) → HasInWork j (seat_of b r q)
stays-first p q r out after stays false j has = has-after p r out j after (stays j.slot j.epoch) has
stays-first p q r out after stays true j has = has

stays-second : (p q r : Seat) (out : List (ℕ × ℕ)) → IsAfter (seat_view q) (seat_view r) out → ((s e : ℕ) → IsAmong (s, e) (seat_view q).out → IsAmong (s, e) out)
    → (b : Bool) (j : JobView) → HasInWork j (seat_of b p q) → HasInWork j (seat_of b p r)
stays-second p q r out after stays false j has = has
stays-second p q r out after stays true j has = has-after q r out j after (stays j.slot j.epoch) has

pub paused-first : (p q r : Seat) (hs : List (Bool × JobView)) → IsAfter (seat_view p) (seat_view r) (seat_view p).out → AreHeld hs p q → AreHeld hs r q
paused-first p q r hs after held =
    let long = ap length after.1 in
    record { each = each-after p q r q hs (stays-first p q r (seat_view p).out after (λ s e is. is)) held.each; count = omega arith }

pub paused-second : (p q r : Seat) (hs : List (Bool × JobView)) → IsAfter (seat_view q) (seat_view r) (seat_view q).out → AreHeld hs p q → AreHeld hs p r
paused-second p q r hs after held =
    let long = ap length after.1 in
    record { each = each-after p q p r hs (stays-second p q r (seat_view q).out after (λ s e is. is)) held.each; count = omega arith }

-- one that takes a slot
first-has : (p r : Seat) (j : JobView) → (seat_view p).base ≡ Some j.origin → IsAfter (seat_view p) (seat_view r) ((j.slot, j.epoch) ∷ (seat_view p).out) → HasInWork j r
first-has p r j base after =
    let M : List (ℕ × ℕ) → Type 0 = λ l. IsAmong (j.slot, j.epoch) l in
    record { work = subst M (sym after.1) (inl refl); base = after.4 ∙ base }

pub taken-first : (p q r : Seat) (j : JobView) (hs : List (Bool × JobView)) → (seat_view p).base ≡ Some j.origin
    → IsAfter (seat_view p) (seat_view r) ((j.slot, j.epoch) ∷ (seat_view p).out) → AreHeld hs p q → AreHeld ((false, j) ∷ hs) r q
taken-first p q r j hs base after held =
    let long = ap length after.1 in
    record {
      each = (first-has p r j base after, each-after p q r q hs (stays-first p q r ((j.slot, j.epoch) ∷ (seat_view p).out) after (λ s e is. inr is)) held.each);
      count = omega arith;
    }

pub taken-second : (p q r : Seat) (j : JobView) (hs : List (Bool × JobView)) → (seat_view q).base ≡ Some j.origin
    → IsAfter (seat_view q) (seat_view r) ((j.slot, j.epoch) ∷ (seat_view q).out) → AreHeld hs p q → AreHeld ((true, j) ∷ hs) p r
taken-second p q r j hs base after held =
    let long = ap length after.1 in
    record {
      each = (first-has q r j base after, each-after p q p r hs (stays-second p q r ((j.slot, j.epoch) ∷ (seat_view q).out) after (λ s e is. inr is)) held.each);
      count = omega arith;
    }

-- one that hands a slot back
goes-first : (p q r : Seat) (t : ℕ) → IsAfter (seat_view p) (seat_view r) (without t (seat_view p).out)
    → (b : Bool) (j : JobView) → j.slot ≢ t → HasInWork j (seat_of b p q) → HasInWork j (seat_of b r q)
goes-first p q r t after false j other has = has-after p r (without t (seat_view p).out) j after (among-without t j.slot j.epoch (seat_view p).out other) has
goes-first p q r t after true j other has = has

goes-second : (p q r : Seat) (t : ℕ) → IsAfter (seat_view q) (seat_view r) (without t (seat_view q).out)
    → (b : Bool) (j : JobView) → j.slot ≢ t → HasInWork j (seat_of b p q) → HasInWork j (seat_of b p r)
goes-second p q r t after false j other has = has
goes-second p q r t after true j other has = has-after q r (without t (seat_view q).out) j after (among-without t j.slot j.epoch (seat_view q).out other) has

pub back-first : (p q r : Seat) (j : JobView) (hs : List (Bool × JobView)) → IsAfter (seat_view p) (seat_view r) (without j.slot (seat_view p).out)
    → AreHeld ((false, j) ∷ hs) p q → AreOther j.slot hs → AreHeld hs r q
back-first p q r j hs after held other =
    let long = ap length after.1 in
    let less = length-without j.slot j.epoch (seat_view p).out held.each.0.work in
    record { each = others-after p q r q j.slot hs (goes-first p q r j.slot after) other held.each.1; count = omega arith }

pub back-second : (p q r : Seat) (j : JobView) (hs : List (Bool × JobView)) → IsAfter (seat_view q) (seat_view r) (without j.slot (seat_view q).out)
    → AreHeld ((true, j) ∷ hs) p q → AreOther j.slot hs → AreHeld hs p r
back-second p q r j hs after held other =
    let long = ap length after.1 in
    let less = length-without j.slot j.epoch (seat_view q).out held.each.0.work in
    record { each = others-after p q p r j.slot hs (goes-second p q r j.slot after) other held.each.1; count = omega arith }

-- the slots in another order
pub swapped : (p q : Seat) (a b : Bool × JobView) (hs : List (Bool × JobView)) → AreHeld (a ∷ b ∷ hs) p q → AreHeld (b ∷ a ∷ hs) p q
swapped p q a b hs held = record { each = (held.each.1.0, (held.each.0, held.each.1.1)); count = held.count }

pub first-last : (p q : Seat) (a b c : Bool × JobView) → AreHeld (c ∷ a ∷ b ∷ []) p q → AreHeld (a ∷ b ∷ c ∷ []) p q
first-last p q a b c held = record { each = (held.each.1.0, (held.each.1.1.0, (held.each.0, tt))); count = held.count }
