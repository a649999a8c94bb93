-- A fact of each view after a step, and of one view alone.
use Rattle.std.proofs.Common.{◌≡◌, ℕ, zero, suc, ◌<◌, ◌≤◌, ◌≢◌, List, [], ◌∷◌, ◌++◌, length, get_or, set, sym, subst, ⊎_elim, arith, get_or-set_same, get_or-set_other, length-set}
use mathlib.Core.Logic.{dite}
use mathlib.Core.Option.{some, some-injective, some-ne-none}
use native.Mathlib.Decide.{ℕ_discrete}
use lib.ListN.{get_elem?}
use Rattle.atomic_table.proofs.Lists.{at_set, at_snoc}
use Rattle.turn_cell.specs.Progress.{AtMost}
use Rattle.turn_cell.specs.AtomicSteps.{greater, greatest}

pub in_range : {A : Type 0} (l : List A) (i : ℕ) (a : A) → get_elem? l i ≡ some a → i < length l
in_range [] i a e = absurd (some-ne-none a (sym e))
in_range (x ∷ xs) zero a e = omega arith
in_range (x ∷ xs) (suc i) a e = let h = in_range xs i a e in omega arith

module _ {A : Type 0} where
  -- where the others are as they were
  pub other_views : (P : ℕ → A → Type 0) (l : List A) (i : ℕ) (w : A) → ((j : ℕ) (v : A) → j ≢ i → get_elem? l j ≡ some v → P j v)
      → P i w → (j : ℕ) (v : A) → get_elem? (set l i w) j ≡ some v → P j v
  other_views P l i w others own j v e =
      ⊎_elim (λ t. subst (λ (x : A). P j x) t.1 (subst (λ (k : ℕ). P k w) (sym t.0) own)) (λ t. others j v t.0 t.1) (at_set l i j w v e)

  pub each_view : (P : ℕ → A → Type 0) (l : List A) (i : ℕ) (w : A) → ((j : ℕ) (v : A) → get_elem? l j ≡ some v → P j v) → P i w
      → (j : ℕ) (v : A) → get_elem? (set l i w) j ≡ some v → P j v
  each_view P l i w others own j v e = other_views P l i w (λ k u ne f. others k u f) own j v e

  pub only_view : (P : A → Type 0) (w : A) → P w → (i : ℕ) (v : A) → get_elem? (w ∷ []) i ≡ some v → P v
  only_view P w p zero v e = subst P (some-injective w v e) p
  only_view P w p (suc i) v e = absurd (some-ne-none v (sym e))

  pub with_last : (P : A → Type 0) (l : List A) (w : A) → ((j : ℕ) (v : A) → get_elem? l j ≡ some v → P v) → P w → (j : ℕ) (v : A)
      → get_elem? (l ++ w ∷ []) j ≡ some v → P v
  with_last P l w before last j v e = ⊎_elim (λ f. before j v f) (λ f. subst P f last) (at_snoc l w v j e)

-- lists of marks
pub at_most_itself : (xs : List ℕ) → AtMost xs xs
at_most_itself xs = (omega arith, λ i. omega arith)

pub at_most_set : (xs ys : List ℕ) (p new : ℕ) → AtMost xs ys → p < length ys → get_or ys p 0 ≤ new → AtMost xs (set ys p new)
at_most_set xs ys p new h within no_less = (
  omega (arith, length-set ys p new, h.0),
  (λ i. dite (ℕ_discrete i p)
      (λ e. subst (λ (k : ℕ). get_or xs k 0 ≤ get_or (set ys p new) k 0) (sym e) (omega (arith, h.1 p, get_or-set_same ys p new 0 within)))
      (λ ne. omega (arith, h.1 i, get_or-set_other ys p i new 0 ne))),
)

larger_le : (x y z : ℕ) → x ≤ z → y ≤ z → greater x y ≤ z
larger_le x y z a b = omega arith

each_place : (P : ℕ → Type 0) → P 0 → ((i : ℕ) → P (suc i)) → (i : ℕ) → P i
each_place P a b zero = a
each_place P a b (suc i) = b i

pub greatest_most : (xs ys ws : List ℕ) → AtMost xs ws → AtMost ys ws → AtMost (greatest xs ys) ws
greatest_most [] ys ws a b = b
greatest_most (x ∷ xs) [] ws a b = a
greatest_most (x ∷ xs) (y ∷ ys) [] a b = absurd (omega (arith, a.0))
greatest_most (x ∷ xs) (y ∷ ys) (w ∷ ws) a b =
    let tail = greatest_most xs ys ws ((omega (arith, a.0)), λ i. a.1 (suc i)) ((omega (arith, b.0)), λ i. b.1 (suc i)) in
    (omega (arith, tail.0), each_place (λ i. get_or (greater x y ∷ greatest xs ys) i 0 ≤ get_or (w ∷ ws) i 0) (larger_le x y w (a.1 0) (b.1 0)) tail.1)

pub at_most_trans : (xs ys zs : List ℕ) → AtMost xs ys → AtMost ys zs → AtMost xs zs
at_most_trans xs ys zs a b = (omega (arith, a.0, b.0), λ i. omega (arith, a.1 i, b.1 i))

pub greatest_left : (xs ys : List ℕ) → AtMost xs (greatest xs ys)
greatest_left [] ys = (omega arith, λ i. omega arith)
greatest_left (x ∷ xs) [] = at_most_itself (x ∷ xs)
greatest_left (x ∷ xs) (y ∷ ys) =
    let tail = greatest_left xs ys in
    let here : x ≤ greater x y = omega arith in
    (omega (arith, tail.0), each_place (λ i. get_or (x ∷ xs) i 0 ≤ get_or (greater x y ∷ greatest xs ys) i 0) here tail.1)

pub greatest_right : (xs ys : List ℕ) → AtMost ys (greatest xs ys)
greatest_right [] ys = at_most_itself ys
greatest_right (x ∷ xs) [] = (omega arith, λ i. omega arith)
greatest_right (x ∷ xs) (y ∷ ys) =
    let tail = greatest_right xs ys in
    let here : y ≤ greater x y = omega arith in
    (omega (arith, tail.0), each_place (λ i. get_or (y ∷ ys) i 0 ≤ get_or (greater x y ∷ greatest xs ys) i 0) here tail.1)
