-- A seat is split, two seats are joined, and what the last seat finds.
use Rattle.std.proofs.Common.{◌≡◌, ℕ, zero, suc, ◌+◌, ◌<◌, ◌≢◌, true, false, true≢false, List, [], ◌∷◌, ◌++◌, length, get_or, set, sym, refl, ap, ◌∙◌, subst, inl, inr, ⊎_elim, arith, Option, Some, length-append}
use mathlib.Core.Logic.{dite}
use mathlib.Core.Option.{some, some-injective}
use native.Mathlib.Decide.{ℕ_discrete}
use lib.ListN.{get_elem?}
use Rattle.atomic_table.specs.Table.{State, Splits, Joins}
use Rattle.atomic_table.proofs.Lists.{set_here, set_else, at_longer, at_snoc}
use Rattle.turn_cell.specs.declared.view.View.{View}
use Rattle.turn_cell.specs.Sums.{total, numbers_from, times, AreInWork}
use Rattle.turn_cell.specs.Progress.{AtMost, NoneIsInWork, spent_view}
use Rattle.turn_cell.specs.AtomicSteps.{first_of, rest_of, kept_part, given_part, after_join}
use Rattle.turn_cell.specs.LockRule.{HasView, HasHolder, IsBased, LockRule}
use Rattle.turn_cell.proofs.Adding.{out_yes, total-append, total-set, terms_le, total-one, length-numbers_from}
use Rattle.turn_cell.proofs.Views.{in_range, each_view, with_last, greatest_most}
use Rattle.turn_cell.proofs.Keeping.{awake}

head_and_rest : (h : ℕ → ℕ) (l : List ℕ) → 0 < length l → total h l ≡ h (first_of l) + total h (rest_of l)
head_and_rest h [] e = absurd (omega arith)
head_and_rest h (x ∷ xs) e = refl

rest_long : (l : List ℕ) → 1 < length l → 0 < length (rest_of l)
rest_long [] e = absurd (omega arith)
rest_long (x ∷ xs) e = omega arith

-- no other view holds, where a view that doesn't hold is put behind
holder : {O : Type 0} (l : List (View O)) (z : View O) (k : ℕ)
    → ((j : ℕ) (u : View O) → get_elem? l j ≡ some u → u.holding ≡ true → j ≡ k) → z.holding ≡ false
    → (j : ℕ) (u : View O) → get_elem? (l ++ z ∷ []) j ≡ some u → u.holding ≡ true → j ≡ k
holder {O = O} l z k before calm j u e is = ⊎_elim (λ f. before j u f is)
    (λ f. absurd (true≢false (sym is ∙ (ap (λ (x : View O). x.holding) (sym f) ∙ calm)))) (at_snoc l z u j e)

by_turn : (n : ℕ) → (n ≢ 0 → ⊥) → n ≡ 0
by_turn zero f = refl
by_turn (suc n) f = absurd (f (λ e. absurd (omega arith)))

no_terms : {A : Type 0} (g : A → ℕ) (l : List A) → ((j : ℕ) (v : A) → get_elem? l j ≡ some v → g v ≡ 0) → total g l ≡ 0
no_terms g [] h = refl
no_terms g (x ∷ xs) h = omega (arith, h 0 x refl, no_terms g xs (λ j v e. h (suc j) v e))

module _ {T O : Type 0} (origin : T → O) (marks : T → List ℕ) where
  abbrev Rule : State (Option T) (View O) → Type 0
  Rule = LockRule origin marks

  -- the holder's view
  is_holder : (s : State (Option T) (View O)) (h : HasHolder s) (id : ℕ) (v : View O) → HasView s id v → h.seat ≡ id → v.holding ≡ true
  is_holder s h id v me is =
      ap (λ (u : View O). u.holding) (some-injective v h.view (sym me ∙ (ap (get_elem? s.views) (sym is) ∙ h.there))) ∙ h.holds

  -- a split
  pub splits : (id : ℕ) (v : View O) → 1 < length v.numbers → Splits Rule id v (kept_part v) (given_part v)
  splits id v two s r me =
      let w : View O = kept_part v in
      let z : View O = given_part v in
      let base = awake origin marks s r id v me (omega arith) in
      let long = in_range s.views id v me in
      let l : List (View O) = set s.views id w in
      let all_views : (P : View O → Type 0) → ((j : ℕ) (u : View O) → HasView s j u → P u) → P w → P z
      → (j : ℕ) (u : View O) → get_elem? (l ++ z ∷ []) j ≡ some u → P u =
      λ P before mine new. with_last P l z (each_view (λ _ (u : View O). P u) s.views id w before mine) new in
      let sums : (g : View O → ℕ) → g w + g z ≡ g v → total g (l ++ z ∷ []) ≡ total g s.views =
      λ g e. omega (arith, total-append g l (z ∷ []), total-set g s.views id v w me) in
      let holds_on : (h : HasHolder s) → (x : View O) × (get_elem? (l ++ z ∷ []) h.seat ≡ some x) × (x.holding ≡ true) =
      λ h. dite (ℕ_discrete h.seat id)
      (λ is. (w, at_longer l (z ∷ []) h.seat w (ap (get_elem? l) is ∙ set_here s.views id w long), is_holder s h id v me is))
      (λ ne. (h.view, at_longer l (z ∷ []) h.seat h.view (set_else s.views id h.seat w ne ∙ h.there), h.holds)) in
      record {
        turn = r.turn;
        words = r.words;
        base = r.base;
        all = r.all;
        are = r.are;
        places = r.places;
        long = r.long;
        free = λ e. all_views (λ u. u.holding ≡ false) (r.free e) (r.free e id v me) refl;
        held = λ ne.
            let h = r.held ne in
            let k : ℕ = h.1.seat in
            let kept = holds_on h.1 in
            let alone = each_view (λ j (x : View O). x.holding ≡ true → j ≡ k) s.views id w h.1.alone (λ b. h.1.alone id v me b) in
            (h.0, record { seat = k; view = kept.0; there = kept.1; holds = kept.2; alone = holder l z k alone refl });
        bases = all_views (λ u. IsBased r.base r.all r.places u) r.bases
            (inr (base.0, base.1, rest_long v.numbers two, base.3))
            (inr (base.0, base.1, omega arith, base.3));
        home = r.home;
        phased = r.phased;
        known = all_views (λ u. u.holding ≡ true → u.known ≡ r.words) r.known (λ is. r.known id v me is) (λ is. absurd (true≢false (sym is)));
        work = all_views (λ u. AreInWork r.words u.out) r.work (r.work id v me) tt;
        items = λ p. sums (λ (u : View O). times p u.out) (omega arith) ∙ r.items p;
        seen = all_views (λ u. AtMost u.seen r.words) r.seen (r.seen id v me) (r.seen id v me);
        numbers = λ f. sums (λ (u : View O). total f u.numbers) (omega (arith, head_and_rest f v.numbers (omega arith))) ∙ r.numbers f;
      }

  -- a join: the other seat holds nothing and has no work
  pub joins : (id : ℕ) (v : View O) (other : ℕ) (w : View O) → 0 < length v.numbers → w.holding ≡ false → w.out ≡ []
      → Joins Rule id v other w (after_join v w) spent_view
  joins id v other w some_number idle no_work s r me apart there =
      let x : View O = after_join v w in
      let l : List (View O) = set s.views id x in
      let base = awake origin marks s r id v me some_number in
      let long = in_range s.views id v me in
      let theirs : HasView s other w = sym (set_else s.views id other x apart) ∙ there in
      let all_views : (P : ℕ → View O → Type 0) → ((j : ℕ) (u : View O) → HasView s j u → P j u) → P id x → P other spent_view
      → (j : ℕ) (u : View O) → get_elem? (set l other spent_view) j ≡ some u → P j u =
      λ P before mine gone. each_view P l other spent_view (each_view P s.views id x before mine) gone in
      let sums : (g : View O → ℕ) → g x + g spent_view ≡ g v + g w → total g (set l other spent_view) ≡ total g s.views =
      λ g e. omega (arith, total-set g l other w spent_view there, total-set g s.views id v x me) in
      let not_theirs : (h : HasHolder s) → h.seat ≢ other = λ h e. true≢false (sym (is_holder s h other w theirs e) ∙ idle) in
      let holds_on : (h : HasHolder s) → (u : View O) × (get_elem? (set l other spent_view) h.seat ≡ some u) × (u.holding ≡ true) =
      λ h. dite (ℕ_discrete h.seat id)
      (λ is. (x, set_else l other h.seat spent_view (not_theirs h) ∙ (ap (get_elem? l) is ∙ set_here s.views id x long), is_holder s h id v me is))
      (λ ne. (h.view, set_else l other h.seat spent_view (not_theirs h) ∙ (set_else s.views id h.seat x ne ∙ h.there), h.holds)) in
      record {
        turn = r.turn;
        words = r.words;
        base = r.base;
        all = r.all;
        are = r.are;
        places = r.places;
        long = r.long;
        free = λ e. all_views (λ _ u. u.holding ≡ false) (r.free e) (r.free e id v me) refl;
        held = λ ne.
            let h = r.held ne in
            let k : ℕ = h.1.seat in
            let kept = holds_on h.1 in
            let alone = all_views (λ j u. u.holding ≡ true → j ≡ k) h.1.alone (λ b. h.1.alone id v me b) (λ b. absurd (true≢false (sym b))) in
            (h.0, record { seat = k; view = kept.0; there = kept.1; holds = kept.2; alone = alone });
        bases = all_views (λ _ u. IsBased r.base r.all r.places u) r.bases
            (inr (base.0, base.1, omega (arith, length-append v.numbers w.numbers), base.3))
            (inl refl);
        home = r.home;
        phased = r.phased;
        known = all_views (λ _ u. u.holding ≡ true → u.known ≡ r.words) r.known (λ is. r.known id v me is) (λ is. absurd (true≢false (sym is)));
        work = all_views (λ _ u. AreInWork r.words u.out) r.work (r.work id v me) tt;
        items = λ p. sums (λ (u : View O). times p u.out) (omega (arith, ap (times p) no_work)) ∙ r.items p;
        seen = all_views (λ _ u. AtMost u.seen r.words) r.seen
            (greatest_most v.seen w.seen r.words (r.seen id v me) (r.seen other w theirs))
            (omega arith, λ i. omega arith);
        numbers = λ f. sums (λ (u : View O). total f u.numbers) (omega (arith, total-append f v.numbers w.numbers)) ∙ r.numbers f;
      }

  -- the seat that stands for all numbers finds every other view spent
  alone : (s : State (Option T) (View O)) (r : Rule s) (id : ℕ) (v : View O) → HasView s id v → 0 < length v.numbers
      → length v.numbers ≡ v.total → (j : ℕ) (u : View O) → j ≢ id → HasView s j u → u ≡ spent_view
  alone s r id v me some_number whole j u ne e =
      let base = awake origin marks s r id v me some_number in
      let g : View O → ℕ = λ x. total (λ _. 1) x.numbers in
      ⊎_elim (λ is. is) (λ t. absurd (omega (arith, t.2, base.1, whole, terms_le g s.views id j v u ne me e, r.numbers (λ _. 1), total-one (numbers_from 0 r.all), length-numbers_from 0 r.all, total-one v.numbers, total-one u.numbers))) (r.bases j u e)

  -- the end, for a seat that stands for all numbers, doesn't hold the lock and has no work
  pub closes : (s : State (Option T) (View O)) → Rule s → (id : ℕ) (v : View O) → HasView s id v → 0 < length v.numbers
      → length v.numbers ≡ v.total → v.holding ≡ false → v.out ≡ []
      → (value : T) × (get_elem? s.homes 0 ≡ some (some (Some value))) × (Some (origin value) ≡ v.base) × NoneIsInWork (marks value) × AtMost v.seen (marks value)
  closes s r id v me some_number whole idle no_work =
      let base = awake origin marks s r id v me some_number in
      let others = alone s r id v me some_number whole in
      let idle_all : (j : ℕ) (u : View O) → HasView s j u → u.holding ≡ false = λ j u e. dite (ℕ_discrete j id)
      (λ is. ap (λ (x : View O). x.holding) (some-injective u v (sym e ∙ (ap (get_elem? s.views) is ∙ me))) ∙ idle) (λ ne. ap (λ (x : View O). x.holding) (others j u ne e)) in
      let home : r.turn ≡ 0 = by_turn r.turn (λ ne. let h = r.held ne in true≢false (sym h.1.holds ∙ idle_all h.1.seat h.1.view h.1.there)) in
      let t = r.home home in
      let value : T = t.0 in
      let marked : marks value ≡ r.words = t.2.1 in
      let nobody : (p : ℕ) → total (λ (u : View O). times p u.out) s.views ≡ 0 = λ p. no_terms (λ (u : View O). times p u.out) s.views (λ j u e. dite (ℕ_discrete j id)
      (λ is. ap (λ (x : View O). times p x.out) (some-injective u v (sym e ∙ (ap (get_elem? s.views) is ∙ me))) ∙ ap (times p) no_work) (λ ne. ap (λ (x : View O). times p x.out) (others j u ne e))) in (
        value,
        t.1,
        ap Some t.2.0 ∙ sym base.0,
        subst NoneIsInWork (sym marked) (λ p is. absurd (omega (arith, nobody p, r.items p, out_yes (get_or r.words p 0) is))),
        subst (AtMost v.seen) (sym marked) (r.seen id v me),
      )
