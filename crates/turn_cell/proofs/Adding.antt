-- Sums over a list that changes at one place, and the items of a seat's work.
use Rattle.std.proofs.Common.{◌≡◌, ℕ, zero, suc, ◌+◌, ◌%◌, ◌<◌, ◌≤◌, ◌≢◌, cond, eq-eqb, ne_eqb, List, [], ◌∷◌, ◌++◌, length, set, sym, refl, ap, ◌∙◌, subst, arith, get_or-set_other, length-set}
use mathlib.Core.Logic.{dite}
use mathlib.Core.Option.{some, some-injective, some-ne-none}
use native.Mathlib.Decide.{ℕ_discrete}
use lib.ListN.{get_elem?}
use Rattle.turn_cell.specs.Sums.{total, numbers_from, is_at, times, without, AreInWork, is_in_work}

module _ {A : Type 0} (g : A → ℕ) where
  pub total-append : (l m : List A) → total g (l ++ m) ≡ total g l + total g m
  total-append [] m = omega arith
  total-append (x ∷ xs) m = omega (arith, total-append xs m)

  pub total-set : (l : List A) (j : ℕ) (v w : A) → get_elem? l j ≡ some v → total g (set l j w) + g v ≡ total g l + g w
  total-set [] j v w e = absurd (some-ne-none v (sym e))
  total-set (x ∷ xs) zero v w e = omega (arith, ap g (some-injective x v e))
  total-set (x ∷ xs) (suc j) v w e = omega (arith, total-set xs j v w e)

  pub term_le : (l : List A) (j : ℕ) (v : A) → get_elem? l j ≡ some v → g v ≤ total g l
  term_le [] j v e = absurd (some-ne-none v (sym e))
  term_le (x ∷ xs) zero v e = omega (arith, ap g (some-injective x v e))
  term_le (x ∷ xs) (suc j) v e = omega (arith, term_le xs j v e)

  pub terms_le : (l : List A) (j k : ℕ) (v u : A) → k ≢ j → get_elem? l j ≡ some v → get_elem? l k ≡ some u → g v + g u ≤ total g l
  terms_le [] j k v u n e d = absurd (some-ne-none v (sym e))
  terms_le (x ∷ xs) zero zero v u n e d = absurd (n refl)
  terms_le (x ∷ xs) zero (suc k) v u n e d = omega (arith, ap g (some-injective x v e), term_le xs k u d)
  terms_le (x ∷ xs) (suc j) zero v u n e d = omega (arith, ap g (some-injective x u d), term_le xs j v e)
  terms_le (x ∷ xs) (suc j) (suc k) v u n e d = omega (arith, terms_le xs j k v u (λ h. n (ap suc h)) e d)

pub length-numbers_from : (a n : ℕ) → length (numbers_from a n) ≡ n
length-numbers_from a zero = refl
length-numbers_from a (suc n) = ap suc (length-numbers_from (a + 1) n)

pub total-one : {A : Type 0} (l : List A) → total (λ _. 1) l ≡ length l
total-one [] = refl
total-one (x ∷ xs) = omega (arith, total-one xs)

-- items
pub at_same : (p : ℕ) (x : ℕ × ℕ) → x.0 ≡ p → is_at p x ≡ 1
at_same p x e = ap (λ b. cond b 1 0) (eq-eqb x.0 p e)

pub at_other : (p : ℕ) (x : ℕ × ℕ) → x.0 ≢ p → is_at p x ≡ 0
at_other p x ne = ap (λ b. cond b 1 0) (ne_eqb x.0 p ne)

pub out_yes : (w : ℕ) → w % 4 ≡ 1 → is_in_work w ≡ 1
out_yes w e = ap (λ b. cond b 1 0) (eq-eqb (w % 4) 1 e)

pub out_no : (w : ℕ) → w % 4 ≢ 1 → is_in_work w ≡ 0
out_no w ne = ap (λ b. cond b 1 0) (ne_eqb (w % 4) 1 ne)

without_yes : (p : ℕ) (x : ℕ × ℕ) (xs : List (ℕ × ℕ)) → x.0 ≡ p → without p (x ∷ xs) ≡ xs
without_yes p x xs e = ap (λ b. cond b xs (x ∷ without p xs)) (eq-eqb x.0 p e)

without_no : (p : ℕ) (x : ℕ × ℕ) (xs : List (ℕ × ℕ)) → x.0 ≢ p → without p (x ∷ xs) ≡ x ∷ without p xs
without_no p x xs ne = ap (λ b. cond b xs (x ∷ without p xs)) (ne_eqb x.0 p ne)

pub times-without : (p : ℕ) (l : List (ℕ × ℕ)) → 0 < times p l → times p (without p l) + 1 ≡ times p l
times-without p [] h = absurd (omega arith)
times-without p (x ∷ xs) h = dite (ℕ_discrete x.0 p)
    (λ e. omega (arith, at_same p x e, ap (times p) (without_yes p x xs e)))
    (λ ne. let here = at_other p x ne in let more : 0 < times p xs = omega arith in omega (arith, ap (times p) (without_no p x xs ne), times-without p xs more))

pub times-without_other : (p q : ℕ) (l : List (ℕ × ℕ)) → q ≢ p → times q (without p l) ≡ times q l
times-without_other p q [] n = refl
times-without_other p q (x ∷ xs) n = dite (ℕ_discrete x.0 p)
    (λ e. omega (arith, at_other q x (λ f. n (sym f ∙ e)), ap (times q) (without_yes p x xs e)))
    (λ ne. omega (arith, ap (times q) (without_no p x xs ne), times-without_other p q xs n))

pub fit-without : (ws : List ℕ) (p : ℕ) (l : List (ℕ × ℕ)) → AreInWork ws l → AreInWork ws (without p l)
fit-without ws p [] f = tt
fit-without ws p (x ∷ xs) f = dite (ℕ_discrete x.0 p)
    (λ e. subst (AreInWork ws) (sym (without_yes p x xs e)) f.2)
    (λ ne. subst (AreInWork ws) (sym (without_no p x xs ne)) (f.0, f.1, fit-without ws p xs f.2))

-- a word changes at a place of no item
pub fit-set : (ws : List ℕ) (p new : ℕ) (l : List (ℕ × ℕ)) → times p l ≡ 0 → AreInWork ws l → AreInWork (set ws p new) l
fit-set ws p new [] none f = tt
fit-set ws p new (x ∷ xs) none f = dite (ℕ_discrete x.0 p)
    (λ e. absurd (omega (arith, at_same p x e)))
    (λ ne. let rest : times p xs ≡ 0 = omega arith in (omega (arith, length-set ws p new), get_or-set_other ws p x.0 new 0 ne ∙ f.1, fit-set ws p new xs rest f.2))
