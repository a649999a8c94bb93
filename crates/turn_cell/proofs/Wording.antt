-- From sums over all seats to one item, or one number, with one seat.
use Rattle.std.proofs.Common.{◌≡◌, ℕ, zero, suc, ◌+◌, ◌*◌, ◌/◌, ◌<◌, ◌≤◌, ◌≢◌, cond, eqb, eq-eqb, ne_eqb, List, [], ◌∷◌, get_or, sym, refl, ap, ◌∙◌, subst, arith, Option}
use mathlib.Core.Logic.{dite}
use mathlib.Core.Option.{some, some-injective, some-ne-none}
use native.Mathlib.Decide.{ℕ_discrete}
use lib.ListN.{get_elem?}
use Rattle.atomic_table.specs.Table.{State}
use Rattle.turn_cell.specs.declared.view.View.{View}
use Rattle.turn_cell.specs.Sums.{total, numbers_from, is_at, AreInWork}
use Rattle.turn_cell.specs.LockRule.{LockRule}
use Rattle.turn_cell.specs.Laws.{word_at, ItemsAreInWork, WorkHasOneSeat, NumbersHaveOneSeat}
use Rattle.turn_cell.proofs.Adding.{term_le, at_same, at_other, out_yes}

not_none : (n : ℕ) → n ≢ 0 → 0 < n
not_none zero ne = absurd (ne refl)
not_none (suc n) ne = omega arith

pair-same : (x : ℕ × ℕ) (a b : ℕ) → x.0 ≡ a → x.1 ≡ b → x ≡ (a, b)
pair-same x a b e f = ap (λ (k : ℕ). (k, x.1)) e ∙ ap (λ (k : ℕ). (a, k)) f

module _ {A : Type 0} (g : A → ℕ) where
  -- of a list's terms one is 1 and the others are 0
  pub record IsOnly (l : List A) : Type 0 where
    pub place : ℕ
    pub term : A
    pub there : get_elem? l place ≡ some term
    pub one : g term ≡ 1
    pub alone : (j : ℕ) (w : A) → get_elem? l j ≡ some w → 0 < g w → j ≡ place

  only-here : (x : A) (xs : List A) → total g xs ≡ 0 → (j : ℕ) (w : A) → get_elem? (x ∷ xs) j ≡ some w → 0 < g w → j ≡ 0
  only-here x xs none zero w e more = refl
  only-here x xs none (suc j) w e more = absurd (omega (arith, term_le g xs j w e))

  only-later : (x : A) (xs : List A) (i : ℕ) → g x ≡ 0 → ((j : ℕ) (w : A) → get_elem? xs j ≡ some w → 0 < g w → j ≡ i)
      → (j : ℕ) (w : A) → get_elem? (x ∷ xs) j ≡ some w → 0 < g w → j ≡ suc i
  only-later x xs i none alone zero w e more = absurd (omega (arith, ap g (some-injective x w e)))
  only-later x xs i none alone (suc j) w e more = ap suc (alone j w e more)

  -- where the sum is 1
  pub only-one : (l : List A) → total g l ≡ 1 → IsOnly l
  only-one [] e = absurd (omega arith)
  only-one (x ∷ xs) e = dite (ℕ_discrete (g x) 0)
      (λ none. let rest = only-one xs (omega arith) in record {
        place = suc rest.place;
        term = rest.term;
        there = rest.there;
        one = rest.one;
        alone = only-later x xs rest.place none rest.alone;
      })
      (λ some_term. let less : (0 < g x) = not_none (g x) some_term in record {
        place = 0;
        term = x;
        there = refl;
        one = omega arith;
        alone = only-here x xs (omega arith);
      })

module _ {V A : Type 0} (f : V → List A) (g : A → ℕ) where
  -- of all entries of all lists one is 1 and the others are 0
  pub record IsOne (vs : List V) : Type 0 where
    pub seat : ℕ
    pub view : V
    pub has : get_elem? vs seat ≡ some view
    pub place : ℕ
    pub term : A
    pub there : get_elem? (f view) place ≡ some term
    pub one : g term ≡ 1
    pub alone : (j l : ℕ) (v : V) (x : A) → get_elem? vs j ≡ some v → get_elem? (f v) l ≡ some x → g x ≡ 1
        → (j ≡ seat) × (l ≡ place)

  -- where the sum of all is 1
  pub one-entry : (vs : List V) → total (λ v. total g (f v)) vs ≡ 1 → IsOne vs
  one-entry vs e =
      let seat = only-one (λ (v : V). total g (f v)) vs e in
      let mine = only-one g (f seat.term) seat.one in
      record {
        seat = seat.place;
        view = seat.term;
        has = seat.there;
        place = mine.place;
        term = mine.term;
        there = mine.there;
        one = mine.one;
        alone = λ j l v x has at one.
            let here : j ≡ seat.place = seat.alone j v has (omega (arith, term_le g (f v) l x at)) in
            let same : v ≡ seat.term = some-injective v seat.term (sym has ∙ (ap (get_elem? vs) here ∙ seat.there)) in
            (here, mine.alone l x (ap (λ (u : V). get_elem? (f u) l) (sym same) ∙ at) (omega arith));
      }

-- 1 at one number, else 0
abbrev is_number : ℕ → ℕ → ℕ
is_number n m = cond (eqb m n) 1 0

is_number-same : (n m : ℕ) → m ≡ n → is_number n m ≡ 1
is_number-same n m e = ap (λ b. cond b 1 0) (eq-eqb m n e)

is_number-other : (n m : ℕ) → m ≢ n → is_number n m ≡ 0
is_number-other n m ne = ap (λ b. cond b 1 0) (ne_eqb m n ne)

is_number-one : (n m : ℕ) → is_number n m ≡ 1 → m ≡ n
is_number-one n m one = dite (ℕ_discrete m n) (λ e. e) (λ ne. absurd (omega (arith, is_number-other n m ne)))

numbers-none : (n a k : ℕ) → n < a → total (is_number n) (numbers_from a k) ≡ 0
numbers-none n a zero behind = refl
numbers-none n a (suc k) behind = omega (arith, is_number-other n a (λ e. absurd (omega arith)), numbers-none n (a + 1) k (omega arith))

not_first : (n a : ℕ) → a ≢ n → a ≤ n → a + 1 ≤ n
not_first n a ne from = omega arith

numbers-one : (n a k : ℕ) → a ≤ n → n < a + k → total (is_number n) (numbers_from a k) ≡ 1
numbers-one n a zero from within = absurd (omega arith)
numbers-one n a (suc k) from within = dite (ℕ_discrete a n)
    (λ e. omega (arith, is_number-same n a e, numbers-none n (a + 1) k (omega arith)))
    (λ ne. omega (arith, is_number-other n a ne, numbers-one n (a + 1) k (not_first n a ne from) (omega arith)))

-- an item in work has its word
work-at : (words : List ℕ) (out : List (ℕ × ℕ)) (k : ℕ) (x : ℕ × ℕ) → AreInWork words out → get_elem? out k ≡ some x
    → get_or words x.0 0 ≡ 4 * x.1 + 1
work-at words [] k x w e = absurd (some-ne-none x (sym e))
work-at words (y ∷ ys) zero x w e = subst (λ (z : ℕ × ℕ). get_or words z.0 0 ≡ 4 * z.1 + 1) (some-injective y x e) w.1
work-at words (y ∷ ys) (suc k) x w e = work-at words ys k x w.2 e

at_one : (p : ℕ) (x : ℕ × ℕ) → is_at p x ≡ 1 → x.0 ≡ p
at_one p x one = dite (ℕ_discrete x.0 p) (λ e. e) (λ ne. absurd (omega (arith, at_other p x ne)))

module _ {T O : Type 0} (origin : T → O) (marks : T → List ℕ) where
  word-at : (s : State (Option T) (View O)) (r : LockRule origin marks s) (place : ℕ) → word_at s place ≡ get_or r.words place 0
  word-at s r place = let next : place + 1 ≡ suc place = omega arith in ap (λ (l : List ℕ). get_or l (place + 1) 0) r.are ∙ ap (λ (k : ℕ). get_or (r.turn ∷ r.words) k 0) next

  pub items-in_work : ItemsAreInWork origin marks
  items-in_work s r i k place e h = word-at s r place ∙ work-at r.words h.0.out k (place, e) (r.work i h.0 h.1) h.2

  pub work-one_seat : WorkHasOneSeat origin marks
  work-one_seat s r place is =
      let word = word-at s r place in
      let t = one-entry (λ (v : View O). v.out) (is_at place) s.views (r.items place ∙ out_yes (get_or r.words place 0) (omega arith)) in
      let here : t.term.0 ≡ place = at_one place t.term t.one in
      let found = work-at r.words t.view.out t.place t.term (r.work t.seat t.view t.has) t.there in
      let quarter : t.term.1 ≡ word_at s place / 4 = omega (arith, ap (λ (p : ℕ). get_or r.words p 0) here) in
      let item = pair-same t.term place (word_at s place / 4) here quarter in
      let there = subst (λ (x : ℕ × ℕ). get_elem? t.view.out t.place ≡ some x) item t.there in
      (t.seat, t.place, (t.view, t.has, there), λ j l e h. t.alone j l h.0 (place, e) h.1 h.2 (at_same place (place, e) refl))

  pub numbers-one_seat : NumbersHaveOneSeat origin marks
  numbers-one_seat s r number within =
      let t = one-entry (λ (v : View O). v.numbers) (is_number number) s.views (r.numbers (is_number number) ∙ numbers-one number 0 r.all (omega arith) (omega arith)) in
      let there = subst (λ (n : ℕ). get_elem? t.view.numbers t.place ≡ some n) (is_number-one number t.term t.one) t.there in
      (t.seat, t.place, (t.view, t.has, there), λ j l h. t.alone j l h.0 number h.1 h.2 (is_number-same number number refl))
